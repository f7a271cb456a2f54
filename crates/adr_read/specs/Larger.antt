-- Larger limits read the same.
use Rattle.std.specs.Prelude.{ℕ, ℤ, List}
use Rattle.adr_refusal.specs.Agreeing.{Agrees}
use Rattle.adr_value.specs.Limits.{Limits, AreWithin}
use Rattle.adr_refusal.specs.declared.refusal.Refusal.TheVariants.{TooMany}
use Rattle.adr_read.specs.Body.{event_named_by}

-- a body that is not refused for a list above its limit is the same event, or has the same fault, under larger limits
abbrev pub LargerLimitsReadTheSame : Type 0
LargerLimitsReadTheSame =
    (a b : Limits) → AreWithin a b → (now : ℤ) (body id : List ℕ) → Agrees TooMany (event_named_by a now body id) (event_named_by b now body id)
