-- What the matches of a subcommand hold.
use Rattle.std.proofs.Common.{ap₂, ◌∙◌, arith, refl, length, [], ◌∷◌, ◌≡◌, ◌<◌, ◌^◌, ℕ, List, Option, Some, None, Result, Ok, Err, ap}
use Rattle.std.specs.Prelude.{codes, option_map, Box}
use Rattle.std.specs.Box.{box_value}
use Rattle.std.specs.Str.Parse.{IsNumeral, ParsesUnsigned, digits_value, without_leading_plus}
use Rattle.std.specs.Borrow.{Bor}
use Rattle.std.proofs.lemmas.Result.{Ok-from_Ok_iff}
use Rattle.clap.specs.Walk.{texts}
use Rattle.clap.specs.Matches.{ReadsOne, subcommand_name_of}
use Rattle.clap.specs.Simple.{subcommand_rows, subcommand_rows_of}
use Rattle.clap.specs.Words.{Row, Text, first_of}
use Rattle.clap.specs.declared.parser.matches.ArgMatches.{ArgMatches}
use Rattle.clap.specs.declared.parser.matches.ArgMatches.TheViews.{out-ArgMatches, out-SubCommand}
use Rattle.clap.specs.declared.parser.matches.SubCommand.{SubCommand}
use Rattle.adr_server.specs.Grammar.{Places, text_at, tie_in, tie_names}

-- the name and the rows of what was entered, together
pub entered-pairs : {A X Y : Type 0} (f : A → X) (g : A → Y) (found : Option A) (own : Option (X × Y)) → option_map f found ≡ option_map (λ p. p.0) own
    → option_map g found ≡ option_map (λ p. p.1) own → option_map (λ a. (f a, g a)) found ≡ own
entered-pairs f g None None names rows = refl
entered-pairs f g None (Some own) names rows = absurd (cc (names))
entered-pairs f g (Some a) None names rows = absurd (cc (names))
entered-pairs f g (Some a) (Some own) names rows =
    let name : f a ≡ own.0 = cc in
    let row : g a ≡ own.1 = cc in
    ap₂ (λ x y. Some (x, y)) name row

-- the name that was entered is that of its matches
pub entered-name : (m : ArgMatches) → subcommand_name_of m ≡ option_map (λ p. p.0) (subcommand_rows_of m)
entered-name m = go (out-ArgMatches m).subcommand
  where
    go : {Z : Type 0} (sub : Option (Box SubCommand Z)) → option_map (λ b. (out-SubCommand (box_value b)).name.now) sub ≡ option_map (λ p. p.0) (subcommand_rows sub)
    go None = refl
    go (Some b) = refl

pub tie_in-rows : (entered : Option (Text × List Row)) (rows : List Row) → Some rows ≡ option_map (λ own. own.1) entered
    → first_of (codes "tie") rows ≡ tie_in entered
tie_in-rows None rows same = cc
tie_in-rows (Some own) rows same = let is : rows ≡ own.1 = cc in ap (first_of (codes "tie")) is

-- a numeral of a byte is read as its number
pub byte_read : {E : Type 0} (gives : List ℕ → Result ℕ E → Type 0) → ((text : List ℕ) (r : Result ℕ E) → gives text r → ParsesUnsigned 8 10 text r)
    → (text : List ℕ) (found : Option ℕ) → ReadsOne gives text found → IsNumeral 10 (without_leading_plus text)
    → digits_value 10 (without_leading_plus text) < 2 ^ 8 → found ≡ Some (digits_value 10 (without_leading_plus text))
byte_read {E} gives parses text (Some n) h numeral small =
    let read : Result ℕ E = Ok n in
    let is : read ≡ Ok (digits_value 10 (without_leading_plus text)) = Ok-from_Ok_iff read _ _ (parses text read h) (numeral, small) in cc
byte_read {E} gives parses text None h numeral small =
    let failed : Result ℕ E = Err h.0 in
    let is : failed ≡ Ok (digits_value 10 (without_leading_plus text)) = Ok-from_Ok_iff failed _ _ (parses text failed h.1) (numeral, small) in cc

-- the names are somewhere
pub names_are_somewhere : (names : Bor (List (Bor Text))) → texts names.now ≡ codes "newest" ∷ codes "latest-start" ∷ [] → (places : Places) × (names ≡ tie_names places)
names_are_somewhere names e = go names.now e refl
  where
    go : (items : List (Bor Text)) → texts items ≡ codes "newest" ∷ codes "latest-start" ∷ [] → names.now ≡ items → (places : Places) × (names ≡ tie_names places)
    go [] e is = absurd (omega (arith, ap length e))
    go (a ∷ []) e is = absurd (omega (arith, ap length e))
    go (a ∷ b ∷ []) e is =
        let newest : a.now ≡ codes "newest" = cc in
        let latest : b.now ≡ codes "latest-start" = cc in
        let items : a ∷ b ∷ [] ≡ text_at a.ref_ptr (codes "newest") ∷ text_at b.ref_ptr (codes "latest-start") ∷ [] =
        ap₂ (λ x y. text_at a.ref_ptr x ∷ text_at b.ref_ptr y ∷ []) newest latest in
        let list : List (Bor Text) → Bor (List (Bor Text)) = λ now. record { ref_ptr = names.ref_ptr; now = now } in
        (record { names = names.ref_ptr; newest = a.ref_ptr; latest_start = b.ref_ptr }, ap list (is ∙ items))
    go (a ∷ b ∷ c ∷ rest) e is = absurd (omega (arith, ap length e))
