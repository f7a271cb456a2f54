-- What judging an edit computes: where the intervals of the event that it writes lie.
use Rattle.std.specs.Prelude.{List, [], Result}
use Rattle.std.specs.Result.{result_unwrap_or}
use Rattle.adr_refusal.specs.Answer.{result_map}
use Rattle.adr_refusal.specs.declared.refusal.Refusal.{Refusal}
use Rattle.adr_object.specs.declared.object.Object.{Object}
use Rattle.adr_object.specs.declared.object.Object.TheVariants.{Event as event}
use Rattle.adr_object.specs.declared.object.Edit.{Edit}
use Rattle.adr_object.specs.declared.object.Edit.TheVariants.{Create, Change, Remove}
use Rattle.adr_model.specs.declared.entry.Placed.{Placed}
use Rattle.adr_model.specs.Edits.{layout_faults}
use Rattle.adr_model.specs.Layout.{layout, placed_from}

-- where the intervals of the object lie, if it is an event; nowhere where its layout has a fault
abbrev pub placed_of : Object → List Placed
placed_of (event e) = placed_from 0 (result_unwrap_or (layout e) [])
placed_of _ = []

-- where those of the event that the edit writes lie; nowhere where it writes none
abbrev pub placed_by : Edit → List Placed
placed_by (Create o) = placed_of o
placed_by (Change o) = placed_of o
placed_by (Remove kind id) = []

-- the faults of that event's layout
abbrev pub layout_faults_of : Edit → List Refusal
layout_faults_of (Create o) = layout_faults o
layout_faults_of (Change o) = layout_faults o
layout_faults_of (Remove kind id) = []

-- the answer without its value
abbrev pub verdict_of : {T : Type 0} → Result T Refusal → Result (Unit {0}) Refusal
verdict_of answer = result_map (λ _. tt) answer
