-- A start is read or refused alike at each moment of an edit.
use Rattle.std.proofs.Common.{◌≡◌, ℕ, List, [], Bool, true, false, refl, sym, ap, ◌∙◌, arith}
use Rattle.std.specs.Prelude.{ℤ, pos, Result, Ok, Err, Some, unwrap_or, if◌then◌else◌}
use Rattle.serde_json.specs.Data.{Data}
use Rattle.adr_refusal.proofs.Judged.{number_of_le}
use Rattle.adr_refusal.specs.Faults.{Gives}
use Rattle.adr_refusal.specs.declared.refusal.Refusal.{Refusal}
use Rattle.adr_time.specs.Reading.{is_zero_start, start_named}
use Rattle.adr_read.specs.Looking.{text_of}
use Rattle.adr_read.specs.Sets.{faults_of, given, of_kind}
use Rattle.adr_read.specs.Periods.{start_faults, start_in}

same_faults_at : (b : Bool) (m n : ℤ) (r : Result ℤ Refusal) → faults_of (if b then Ok m else r) ≡ faults_of (if b then Ok n else r)
same_faults_at true m n r = refl
same_faults_at false m n r = refl

same_faults : (m n : ℤ) (t : List ℕ) → faults_of (start_named m t) ≡ faults_of (start_named n t)
unfolding start_named
same_faults m n t = same_faults_at (is_zero_start t) m n _

result_gives : {T : Type 0} (r : Result T Refusal) (default : T) → Gives r (faults_of r) (given default r)
result_gives (Ok v) default = (refl, refl)
result_gives (Err f) default = λ _. omega (arith, number_of_le f)

pub start_gives : (d : Data) (now : ℤ) (t : List ℕ) (r : Result ℤ Refusal) → Some t ≡ text_of d → r ≡ start_named now t → Gives r (start_faults d) (start_in now d)
start_gives d now t r is e =
    let faults : start_faults d ≡ faults_of (start_named now t) = ap (λ o. of_kind o (λ t. faults_of (start_named (pos 0) t))) (sym is) ∙ same_faults (pos 0) now t in
    let value : start_in now d ≡ given now (start_named now t) = ap (λ o. given now (start_named now (unwrap_or o []))) (sym is) in
    rw (faults, value, e) (result_gives (start_named now t) now)
