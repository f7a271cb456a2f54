use Rattle.std.proofs.Common.{◌≡◌, ◌∙◌, ◌++◌, ◌∷◌, [], sym, ap, List}
use Rattle.adr_value.specs.declared.payload.PayloadType.{PayloadType}
use Rattle.adr_touches.proofs.Types.{has, known_type, new_type}
use Rattle.adr_touches.proofs.windows.payload_types.Goals as goal
use Rattle.adr_touches.proofs.windows.payload_types.Goals.{then-not-has_type+in_ok-copy+in_ok-push, else-not-has_type}

pub loop-payload-preserved : goal.loop-payload-preserved
loop-payload-preserved c =
    let types : List PayloadType = c.loop-payload.types.items in
    let asked : has types c.payload-item.result.kind ≡ c.has_type.result =
    ap (λ (ts : List PayloadType). has ts c.payload-item.result.kind) (sym c.as_slice.ensures.value) ∙ sym c.has_type.ensures
    in
    elim c.if-not-has_type.branch [
      | then-not-has_type+in_ok-copy+in_ok-push w ↦
          rw w.types-is
          (w.in_ok-push.ensures.items
          ∙ ap (λ (t : PayloadType). types ++ t ∷ []) w.in_ok-copy.ensures
          ∙ new_type _ _ _ types c.loop-payload-test.true c.payload-item.is c.loop-payload.invariant (asked ∙ w.if-not-has_type.true))
      | else-not-has_type w ↦
          rw w.types-is (known_type _ _ _ types c.loop-payload-test.true c.payload-item.is c.loop-payload.invariant (asked ∙ w.if-not-has_type.false))
    ]
