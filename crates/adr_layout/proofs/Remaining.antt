-- What is left to lay out.
use Rattle.std.specs.Prelude.{ℕ, ℤ, ◌++◌, List, Result, Option}
use Rattle.adr_refusal.specs.Answer.{result_map}
use Rattle.adr_refusal.specs.declared.refusal.Refusal.{Refusal}
use Rattle.adr_object.specs.declared.event.Period.{Period}
use Rattle.adr_object.specs.declared.event.Interval.{Interval}
use Rattle.adr_model.specs.declared.entry.Placed.{Placed}
use Rattle.adr_model.specs.Layout.{interval_spans, placed_from}

-- the placed spans of intervals whose first has the place n
abbrev pub placed_spans : Option Period → Result ℤ Refusal → List Interval → ℕ → Result (List Placed) Refusal
placed_spans default next is n = result_map (placed_from n) (interval_spans default next is)

-- those placed so far, and then the answer for the rest
abbrev pub onto : List Placed → Result (List Placed) Refusal → Result (List Placed) Refusal
onto done rest = result_map (λ ps. done ++ ps) rest
