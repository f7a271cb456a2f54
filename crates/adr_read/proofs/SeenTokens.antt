-- The tokens of a body as they are seen, and a body without a NUL as it is read.
use Rattle.std.proofs.Common.{◌≡◌, ◌≢◌, ℕ, Bool, true, false, List, ◌∷◌, Option, Some, None, is_some, refl, sym, ap, ◌∙◌, true≢false}
use Rattle.std.specs.Prelude.{Result, Ok, Err, OnOk, IfErr, MatchResult, if◌then◌else◌}
use Rattle.std.specs.Option.{ok_or}
use Rattle.json.specs.Token as json
use Rattle.json.specs.Token.{string, number, bad}
use Rattle.serde_json.specs.Data.{string as text}
use Rattle.adr_refusal.specs.Faults.{Gives}
use Rattle.adr_value.specs.Number.{Number as Decimal}
use Rattle.adr_value.specs.Value.{number_of}
use Rattle.adr_value.specs.declared.datum.Datum.TheVariants.{Number as NumberDatum}
use Rattle.adr_refusal.specs.declared.refusal.Refusal.{Refusal}
use Rattle.adr_refusal.specs.declared.refusal.Refusal.TheVariants.{BadJson, NoMemory}
use Rattle.adr_read.specs.Tokens.{fits, shielded_token, seen}
use Rattle.adr_read.specs.Values.{datum_faults, datum_in}
use Rattle.json.proofs.Grammar.{value_is}
use Rattle.serde_json.specs.Read.{of_json, converted}
use Rattle.adr_read.specs.Coming.{coming, Comes}
use Rattle.adr_read.proofs.ComingLemmas.{coming-string}

-- ---- a number

abbrev number_seen : List ℕ → json.Token
number_seen s = shielded_token (number s)

-- the value that comes with a number is the text that its shield is
number_comes_at : (b : Bool) (depth : ℕ) (s : List ℕ) (ts : List json.Token) → b ≡ true → coming depth ((if b then string (0 ∷ s) else bad) ∷ ts) ≡ Some (text (0 ∷ s), ts)
number_comes_at true depth s ts e = coming-string depth (0 ∷ s) ts
number_comes_at false depth s ts e = absurd (true≢false (sym e))

pub number_comes : (depth : ℕ) (s : List ℕ) (ts : List json.Token) → fits s ≡ true → coming depth (number_seen s ∷ ts) ≡ Some (text (0 ∷ s), ts)
number_comes depth s ts e = number_comes_at (fits s) depth s ts e

number_fails_at : (b : Bool) (depth : ℕ) (s : List ℕ) (ts : List json.Token) → b ≡ false → coming depth ((if b then string (0 ∷ s) else bad) ∷ ts) ≡ None
number_fails_at true depth s ts e = absurd (true≢false e)
number_fails_at false depth s ts e = ap (converted of_json) (value_is depth (bad ∷ ts))

pub number_fails : (depth : ℕ) (s : List ℕ) (ts : List json.Token) → fits s ≡ false → coming depth (number_seen s ∷ ts) ≡ None
number_fails depth s ts e = number_fails_at (fits s) depth s ts e

pub named : (s : List ℕ) (n : Decimal) → number_of s ≡ Some n → fits s ≡ true
named s n e = ap is_some e

pub number_datum : (s : List ℕ) (n : Decimal) → number_of s ≡ Some n → Gives (Ok (NumberDatum n)) (datum_faults (text (0 ∷ s))) (datum_in (text (0 ∷ s)))
number_datum s n e = rw e (refl, refl)

-- what a number's text is read as
pub found : (s : List ℕ) (n : Decimal) → ◌≡◌ {A = Result Decimal Refusal} (Ok n) (ok_or (number_of s) BadJson) → number_of s ≡ Some n
found s n e = go (number_of s) e
  where
    go : (o : Option Decimal) → ◌≡◌ {A = Result Decimal Refusal} (Ok n) (ok_or o BadJson) → o ≡ Some n
    go None e = absurd cc
    go (Some m) e = cc

pub not_found : (s : List ℕ) (f : Refusal) → ◌≡◌ {A = Result Decimal Refusal} (Err f) (ok_or (number_of s) BadJson) → (f ≡ BadJson) × (fits s ≡ false)
not_found s f e = go (number_of s) e
  where
    go : (o : Option Decimal) → ◌≡◌ {A = Result Decimal Refusal} (Err f) (ok_or o BadJson) → (f ≡ BadJson) × (is_some o ≡ false)
    go None e = (cc, refl)
    go (Some m) e = absurd cc

-- or for want of a decimal none
pub refused_number : (depth : ℕ) (s : List ℕ) (ts : List json.Token) (t : json.Token) (f : Refusal) → t ≡ number_seen s → ◌≡◌ {A = Result Decimal Refusal} (Err f) (ok_or (number_of s) BadJson) → (f ≡ BadJson) × (coming depth (t ∷ ts) ≡ None)
refused_number depth s ts t f is e = let r = not_found s f e in (r.0, ap (λ u. coming depth (u ∷ ts)) is ∙ number_fails depth s ts r.1)

pub passed : (r : Result (Unit {0}) Refusal) (depth : ℕ) (s : List ℕ) (ts : List json.Token) → MatchResult r (λ _. fits s ≡ true) (λ f. (f ≡ BadJson) × (fits s ≡ false))
    → OnOk r (Comes depth (number_seen s ∷ ts) ts)
passed (Ok u) depth s ts h = (text (0 ∷ s), number_comes depth s ts h)
passed (Err f) depth s ts h = tt

pub not_passed : (r : Result (Unit {0}) Refusal) (depth : ℕ) (s : List ℕ) (ts : List json.Token) → MatchResult r (λ _. fits s ≡ true) (λ f. (f ≡ BadJson) × (fits s ≡ false))
    → IfErr r (λ f. f ≢ NoMemory → (f ≡ BadJson) × (coming depth (number_seen s ∷ ts) ≡ None))
not_passed (Ok u) depth s ts h = tt
not_passed (Err f) depth s ts h = λ _. (h.0, number_fails depth s ts h.1)
