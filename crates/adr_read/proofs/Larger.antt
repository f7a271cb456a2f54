-- Larger limits read the same.
use Rattle.std.proofs.Common.{◌≡◌, ℕ, ℤ, ◌≤◌, Bool, true, false, List, [], ◌∷◌, ◌++◌, length, refl, arith, nat_le, inl, inr, ◌⊎◌}
use Rattle.std.specs.Prelude.{Option, Some, None, codes}
use Rattle.std.specs.List.{flat_map}
use Rattle.std.proofs.lemmas.Bool.{false≢true}
use Rattle.serde_json.specs.Data.{Data, Items}
use Rattle.serde_json.specs.Find.{as_array}
use Rattle.adr_refusal.specs.Agreeing.{Agrees}
use Rattle.adr_refusal.specs.Faults.{judged}
use Rattle.adr_value.specs.Limits.{Limits, AreWithin}
use Rattle.adr_refusal.specs.declared.refusal.Refusal.{Refusal}
use Rattle.adr_refusal.specs.declared.refusal.Refusal.TheVariants.{TooMany}
use Rattle.adr_refusal.proofs.Agreeing.{agrees_then, judged_inside}
use Rattle.adr_object.specs.declared.event.Event.{Event}
use Rattle.adr_read.specs.Body.{event_named_by, object_named}
use Rattle.adr_read.specs.Larger.{LargerLimitsReadTheSame}
use Rattle.adr_read.specs.Looking.{elements, member_at}
use Rattle.adr_read.specs.Objects.{event_faults_by, event_head_faults, event_in, own_targets_faults}
use Rattle.adr_read.specs.Periods.{interval_faults, period_faults}
use Rattle.adr_read.specs.Sets.{list_faults, of_kind, optional, required, unless}

module _ (a b : Limits) (within : AreWithin a b) where
  -- the fault of a list above its limit, under both
  by_length : (n : ℕ) → (unless (nat_le n a.intervals) TooMany ≡ unless (nat_le n b.intervals) TooMany)
      ⊎ ((unless (nat_le n a.intervals) TooMany ≡ TooMany ∷ []) × (unless (nat_le n b.intervals) TooMany ≡ []))
  by_length n = split (nat_le n a.intervals) (nat_le n b.intervals) (longer n a.intervals b.intervals within.intervals)
    where
      longer : (n x y : ℕ) → x ≤ y → nat_le n x ≡ true → nat_le n y ≡ true
      longer n x y h e = grind arith

      split : (x y : Bool) → (x ≡ true → y ≡ true) → (unless x TooMany ≡ unless y TooMany) ⊎ ((unless x TooMany ≡ TooMany ∷ []) × (unless y TooMany ≡ []))
      split true true h = inl refl
      split true false h = absurd (false≢true (h refl))
      split false true h = inr (refl, refl)
      split false false h = inl refl

  event_within : (now : ℤ) (id : List ℕ) (d : Data) → Agrees TooMany (judged (event_faults_by a id d) (event_in now id d)) (judged (event_faults_by b id d) (event_in now id d))
  unfolding event_faults_by
  event_within now id d = of_member (member_at (codes "intervals") d)
    where
      of_elements : (mid : List Refusal) (o : Option Items) → Agrees {T = Event} TooMany
          (judged (event_head_faults id d ++ (mid ++ of_kind o (λ ds. unless (nat_le (length (elements ds)) a.intervals) TooMany ++ flat_map interval_faults (elements ds)))) (event_in now id d))
          (judged (event_head_faults id d ++ (mid ++ of_kind o (λ ds. unless (nat_le (length (elements ds)) b.intervals) TooMany ++ flat_map interval_faults (elements ds)))) (event_in now id d))
      of_elements mid None n = refl
      of_elements mid (Some ds) n =
          judged_inside TooMany (event_head_faults id d) mid (flat_map interval_faults (elements ds)) _ _ (event_in now id d) (by_length (length (elements ds))) n

      of_member : (m : Option Data) → Agrees {T = Event} TooMany
          (judged (event_head_faults id d ++ ((own_targets_faults d ++ optional period_faults (member_at (codes "intervalPeriod") d)) ++ required (list_faults a.intervals interval_faults) m)) (event_in now id d))
          (judged (event_head_faults id d ++ ((own_targets_faults d ++ optional period_faults (member_at (codes "intervalPeriod") d)) ++ required (list_faults b.intervals interval_faults) m)) (event_in now id d))
      of_member None n = refl
      of_member (Some x) n = of_elements (own_targets_faults d ++ optional period_faults (member_at (codes "intervalPeriod") d)) (as_array x) n

  named_within : (now : ℤ) (body id : List ℕ) → Agrees TooMany (event_named_by a now body id) (event_named_by b now body id)
  unfolding event_named_by
  named_within now body id n = agrees_then TooMany _ _ (object_named body) (λ d. event_within now id d) n

pub larger_limits_read_the_same : LargerLimitsReadTheSame
larger_limits_read_the_same a b within now body id = named_within a b within now body id
