-- What a clause sees of a scene: the objects themselves.
use Rattle.adr_model.specs.Matching.{Scene}
use Rattle.adr_rule.specs.declared.scene.Scene.{Scene as Borrowed}

abbrev pub scene_view : Borrowed → Scene
scene_view s = record { program = s.program.now; event = s.event.now; ven = s.ven.now; resource = s.resource.now }
