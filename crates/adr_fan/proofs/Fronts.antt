-- Texts written one behind the other, of which one may stop somewhere.
use Rattle.std.proofs.Common.{◌≡◌, ℕ, List, ◌++◌, Option, sym, ap, ◌∙◌, append_assoc}
use Rattle.std.specs.Prelude.{Result, Ok, Err, OnErr}
use Rattle.std.specs.Io.KnownBytes.{Appends}
use Rattle.std.proofs.KnownBytes.{Appends-trans}
use Rattle.adr_fan.specs.Levels.{WritesPart}

abbrev Known : Type 0
Known = Option (List ℕ)

-- some of the whole is written, and this is the rest
abbrev pub Wrote : Known → Known → List ℕ → List ℕ → Type 0
Wrote old new whole rest = (done : List ℕ) × Appends old new done × (whole ≡ done ++ rest)

pub wrote_more : (a b c : Known) (whole text rest : List ℕ) → Wrote a b whole (text ++ rest) → Appends b c text → Wrote a c whole rest
wrote_more a b c whole text rest (done, appended, is) more = (done ++ text, Appends-trans a b c done text appended more, is ∙ sym (append_assoc done text rest))

pub wrote_part : (a b c : Known) (whole text rest : List ℕ) → Wrote a b whole (text ++ rest) → WritesPart b c text → WritesPart a c whole
wrote_part a b c whole text rest (done, appended, is) (part, more, cut, written) =
    (done ++ part, more ++ rest, is ∙ ap (λ t. done ++ (t ++ rest)) cut ∙ ap (λ t. done ++ t) (append_assoc part more rest) ∙ sym (append_assoc done part (more ++ rest)), Appends-trans a b c done part appended written)

pub part_front : (a b : Known) (text more : List ℕ) → WritesPart a b text → WritesPart a b (text ++ more)
part_front a b text more (part, left, is, written) = (part, left ++ more, ap (λ t. t ++ more) is ∙ append_assoc part left more, written)

pub part_behind : (a b c : Known) (text more : List ℕ) → Appends a b text → WritesPart b c more → WritesPart a c (text ++ more)
part_behind a b c text more appended (part, left, is, written) =
    (text ++ part, left, ap (λ t. text ++ t) is ∙ sym (append_assoc text part left), Appends-trans a b c text part appended written)

pub at_err : {T E : Type 0} (r : Result T E) (P : Type 0) → P → OnErr r P
at_err (Ok x) P p = tt
at_err (Err e) P p = p
