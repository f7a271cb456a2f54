-- A body without a NUL that reads as a value with its numbers seen as texts is the object that its shield is.
use Rattle.std.proofs.Common.{◌≡◌, ◌≢◌, ◌⊎◌, ℕ, ◌+◌, ◌==◌, ◌&&◌, not, is_some, Bool, true, false, List, [], ◌∷◌, ◌++◌, length, drop, take, Option, Some, None, option_and_then, refl, sym, ap, ◌∙◌, arith, inl, inr, true≢false, nat_eq, codes, get_or, length-drop}
use Rattle.std.specs.Prelude.{Result, Ok, Err, MatchResult, if◌then◌else◌}
use Rattle.std.specs.List.{starts_with}
use Rattle.std.specs.Str.{is_utf8}
use Rattle.std.proofs.lemmas.Bool.{cases_Bool, and_parts, eqb-true}
use Rattle.std.proofs.lemmas.List.{get_or-drop, get_or_append_left, take-append-drop, length-append}
use Rattle.std.proofs.lemmas.Option.{none-some}
use Rattle.std.proofs.lemmas.Slice.Eq.{bytes_eq-Decides}
use Rattle.std.proofs.lemmas.Str.{is_utf8-from_IsUtf8, IsUtf8-from_is_utf8}
use Rattle.json.specs.Json as json
use Rattle.json.specs.Json.{value, if_last}
use Rattle.json.specs.Lex.{tokens}
use Rattle.json.specs.Token.{Token}
use Rattle.memchr.specs.Find.{Nowhere, OccursAt, FindsNeedle}
use Rattle.serde_json.specs.Data.{Data}
use Rattle.serde_json.specs.Read.{of_json, max_depth}
use Rattle.adr_refusal.specs.declared.refusal.Refusal.{Refusal}
use Rattle.adr_refusal.specs.declared.refusal.Refusal.TheVariants.{BadJson, NoMemory}
use Rattle.adr_read.specs.Body.{value_of, object_or, object_of_shielded, object_named}
use Rattle.adr_read.specs.Seen.{whole_value, value_seen, nul_first, HasNoNul}
use Rattle.adr_read.specs.Tokens.{shielded_tokens}
use Rattle.adr_read.proofs.Shielding.{shields}

last_of : (o : Option (json.Json × List Token)) (d : Data) → option_and_then of_json (option_and_then (λ p. if_last p.0 p.1) o) ≡ Some d → (j : json.Json) × (o ≡ Some (j, []))
last_of None d e = absurd (none-some d e)
last_of (Some (j, [])) d e = (j, refl)
last_of (Some (j, t ∷ ts)) d e = absurd (none-some d e)

shield_is : (body : List ℕ) (d : Data) → is_utf8 body ≡ true → HasNoNul body → whole_value (shielded_tokens (tokens body)) ≡ Some d → object_named body ≡ object_or (Some d)
unfolding object_named
shield_is body d utf8 nul e =
    let j = last_of (value max_depth (shielded_tokens (tokens body))) d e in
    let s = shields body max_depth j.0 nul j.1 in
    let is : is_utf8 s.out ≡ true = is_utf8-from_IsUtf8 s.out (s.utf8 (IsUtf8-from_is_utf8 body utf8)) in
    let read : value_of s.out ≡ Some d = ap (λ b. if b then whole_value (tokens s.out) else None) is ∙ ap whole_value s.same ∙ e in
    ap object_of_shielded s.shield ∙ ap object_or read

named_at : (body : List ℕ) (b : Bool) (o : Option Data) → is_utf8 body ≡ b → whole_value (shielded_tokens (tokens body)) ≡ o → HasNoNul body
    → object_or (if b then o else None) ≢ Err BadJson → object_named body ≡ object_or (if b then o else None)
named_at body true (Some d) utf8 e nul fine = shield_is body d utf8 nul e
named_at body true None utf8 e nul fine = absurd (fine refl)
named_at body false o utf8 e nul fine = absurd (fine refl)

-- what a body tells with its numbers seen as texts is the same of its shield, unless it tells of no JSON
pub named_as_seen : (body : List ℕ) → HasNoNul body → object_or (value_seen false body) ≢ Err BadJson → object_named body ≡ object_or (value_seen false body)
named_as_seen body nul fine = named_at body (is_utf8 body) _ refl refl nul fine

-- ---- the escape of a NUL

abbrev nul : List ℕ
nul = codes "\\u0000"

-- it stands where its bytes do
nul_there : (t : List ℕ) → nul_first t ≡ true → t ≡ nul ++ drop 6 t
nul_there [] e = absurd (true≢false (sym e))
nul_there (b ∷ []) e = absurd (true≢false (sym e))
nul_there (b ∷ c ∷ rest) e =
    let p = and_parts (b == 92) ((c == 117) && starts_with nat_eq rest (codes "0000")) e in
    let q = and_parts (c == 117) (starts_with nat_eq rest (codes "0000")) p.1 in
    let zeros : codes "0000" ≡ take 4 rest = (bytes_eq-Decides (codes "0000") (take 4 rest)).0 q.1 in
    (λ i. eqb-true b 92 p.0 i ∷ eqb-true c 117 q.0 i ∷ rest) ∙ ap (λ xs. 92 ∷ 117 ∷ xs) (sym (take-append-drop 4 rest) ∙ ap (λ xs. xs ++ drop 4 rest) (sym zeros))

occurs : (body : List ℕ) (k : ℕ) → nul_first (drop k body) ≡ true → OccursAt body nul k
occurs body k e =
    let is = nul_there (drop k body) e in
    let size : length (drop k body) ≡ 6 + length (drop 6 (drop k body)) = ap length is ∙ length-append nul (drop 6 (drop k body)) in
    record {
      fits = omega (arith, size, length-drop k body);
      reads = λ j less. sym (get_or-drop k body j 0) ∙ ap (λ t. get_or t j 0) is ∙ get_or_append_left nul (drop 6 (drop k body)) 0 j less;
    }

pub no_nul : (body : List ℕ) → Nowhere (OccursAt body nul) 0 (length body + 1) → HasNoNul body
no_nul body nowhere k = elim (cases_Bool (nul_first (drop k body))) [
  | inl h ↦ let there = occurs body k h in absurd (nowhere k (omega arith) (omega (arith, there.fits)) there)
  | inr h ↦ h
]

pub none_found : (body : List ℕ) (r : Option ℕ) (b : Bool) → FindsNeedle body nul 0 r → is_some r ≡ not b → b ≡ true → HasNoNul body
none_found body None b finds e is = no_nul body finds
none_found body (Some k) b finds e is = let never : true ≡ not true = e ∙ ap not is in absurd (true≢false never)

-- ---- what is answered

module _ {M : Type 0} (body : List ℕ) (A : M → Data → Type 0) (clean : HasNoNul body) where
  abbrev pub Seen : Result M Refusal → Type 0
  Seen r = MatchResult r (λ m. (d : Data) × (object_or (value_seen false body) ≡ Ok d) × A m d) (λ f. (f ≡ NoMemory) ⊎ (object_or (value_seen false body) ≡ Err f))

  pub found_as_named : (m : M) → Seen (Ok m) → (d : Data) × (object_named body ≡ Ok d) × A m d
  found_as_named m told =
      let fine = λ (bad : object_or (value_seen false body) ≡ Err BadJson). let never : ◌≡◌ {A = Result Data Refusal} (Ok told.0) (Err BadJson) = sym told.1 ∙ bad in let no : ⊥ = cc in no in
      (told.0, named_as_seen body clean fine ∙ told.1, told.2)

  pub refused_as_named : (f : Refusal) → f ≢ BadJson → Seen (Err f) → (f ≡ NoMemory) ⊎ (object_named body ≡ Err f)
  refused_as_named f other (inl e) = inl e
  refused_as_named f other (inr e) =
      let fine = λ (bad : object_or (value_seen false body) ≡ Err BadJson). let both : ◌≡◌ {A = Result Data Refusal} (Err f) (Err BadJson) = sym e ∙ bad in let same : f ≡ BadJson = cc in other same in
      inr (named_as_seen body clean fine ∙ e)

pub unequal : (f : Refusal) (b : Bool) → (f ≡ BadJson → b ≡ false) → b ≡ true → f ≢ BadJson
unequal f b same is e = absurd (true≢false (sym is ∙ same e))
