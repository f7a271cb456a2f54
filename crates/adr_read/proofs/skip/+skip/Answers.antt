use Rattle.std.proofs.Common.{◌≡◌, ◌⊎◌, inl, inr, ℕ, ◌-◌, ◌≤◌, List, [], ◌∷◌, length, Bool, Bor, Some, None, refl, ap, ◌∙◌, arith}
use Rattle.std.proofs.lemmas.Result.{on_ok_weaker, err_from_is_err_and}
use Rattle.json.specs.Token as spec
use Rattle.json.specs.Json.{parse_map, after_end_array, read_key, value}
use Rattle.adr_read.specs.Tokens.{token_of}
use Rattle.adr_read.specs.declared.tokens.Token.{Token}
use Rattle.json.proofs.Grammar.{left, left-parse_map, left_none, left_some, value_is, read_key-shorter, items_end, members_end, members_no_key}
use Rattle.serde_json.specs.Data.{array, object, item, no_members, put}
use Rattle.serde_json.specs.Read.{of_json, of_items, of_members, converted}
use Rattle.adr_refusal.specs.declared.refusal.Refusal.{Refusal}
use Rattle.adr_read.specs.Coming.{coming, Comes, coming_items}
use Rattle.adr_read.proofs.ComingLemmas.{coming-shorter, coming-string, coming-boolean, coming-null, coming-begin_array, coming-begin_object}
use Rattle.adr_read.proofs.SkipLemmas.{refused, or_refused, if_err, number_comes, number_missing, item_passed, item_refused, member_passed, member_refused}
use Rattle.adr_read.proofs.SeenTokens.{passed, not_passed}
use Rattle.adr_read.proofs.skip.+skip.Goals as goal

-- ---- one value

whole : (depth : ℕ) (t : Token) (ts : List spec.Token) → ((s : Bor (List ℕ)) × (t ≡ Token.String s)) ⊎ (((b : Bool) × (t ≡ Token.Truth b)) ⊎ (t ≡ Token.Null)) → Comes depth (token_of t ∷ ts) ts
whole depth t ts (inl (s, e)) = rw e (_, coming-string depth s.now ts)
whole depth t ts (inr (inl (b, e))) = rw e (_, coming-boolean depth b ts)
whole depth t ts (inr (inr e)) = rw e (_, coming-null depth ts)

never : (depth : ℕ) (t : Token) (ts : List spec.Token) → (t ≡ Token.EndObject) ⊎ ((t ≡ Token.EndArray) ⊎ (((s : Bor (List ℕ)) × (t ≡ Token.Key s)) ⊎ (t ≡ Token.Bad))) → coming depth (token_of t ∷ ts) ≡ None
never depth t ts (inl e) = rw e (ap (converted of_json) (value_is depth (spec.end_object ∷ ts)))
never depth t ts (inr (inl e)) = rw e (ap (converted of_json) (value_is depth (spec.end_array ∷ ts)))
never depth t ts (inr (inr (inl (s, e)))) = rw e (ap (converted of_json) (value_is depth (spec.key s.now ∷ ts)))
never depth t ts (inr (inr (inr e))) = rw e (ap (converted of_json) (value_is depth (spec.bad ∷ ts)))

too_deep : (depth : ℕ) (t : Token) (ts : List spec.Token) → depth ≤ 0 → (t ≡ Token.BeginArray) ⊎ (t ≡ Token.BeginObject) → coming depth (token_of t ∷ ts) ≡ None
too_deep depth t ts le (inl e) = let none : depth ≡ 0 = omega arith in rw (none, e) (ap (converted of_json) (value_is 0 (spec.begin_array ∷ ts)))
too_deep depth t ts le (inr e) = let none : depth ≡ 0 = omega arith in rw (none, e) (ap (converted of_json) (value_is 0 (spec.begin_object ∷ ts)))

pub skip-returns-in-String-clause-ok : goal.skip-returns-in-String-clause-ok
skip-returns-in-String-clause-ok t c = whole c.args.depth c.args.token c.args.reader.now c.in-String.is

pub skip-returns-in-EndObject-clause-bad : goal.skip-returns-in-EndObject-clause-bad
skip-returns-in-EndObject-clause-bad t c _ = (refl, never c.args.depth c.args.token c.args.reader.now c.in-EndObject.is)

pub skip-returns-in-BeginArray-2-clause-bad : goal.skip-returns-in-BeginArray-2-clause-bad
skip-returns-in-BeginArray-2-clause-bad t c _ = (refl, too_deep c.args.depth c.args.token c.args.reader.now c.if-depth-gt0.false c.in-BeginArray-2.is)

pub skip-returns-in-BeginArray-2-2-clause-bad : goal.skip-returns-in-BeginArray-2-2-clause-bad
skip-returns-in-BeginArray-2-2-clause-bad t c _ = (refl, too_deep c.args.depth c.args.token c.args.reader.now c.if-depth-gt0-2.false c.in-BeginArray-2.is)

pub skip-returns-in-Number-clause-ok : goal.skip-returns-in-Number-clause-ok
skip-returns-in-Number-clause-ok t c = rw c.in-Number.is (passed c.pass_decimal.result c.args.depth c.in-Number.text.now c.args.reader.now c.pass_decimal.ensures)

pub skip-returns-in-Number-clause-bad : goal.skip-returns-in-Number-clause-bad
skip-returns-in-Number-clause-bad t c = rw c.in-Number.is (not_passed c.pass_decimal.result c.args.depth c.in-Number.text.now c.args.reader.now c.pass_decimal.ensures)

pub skip-returns-in-Float-clause-ok : goal.skip-returns-in-Float-clause-ok
skip-returns-in-Float-clause-ok t c = rw c.in-Float.is (on_ok_weaker c.check_number.result (number_comes c.args.depth c.in-Float.text.now c.args.reader.now) c.check_number.ensures.ok)

pub skip-returns-in-Float-clause-bad : goal.skip-returns-in-Float-clause-bad
skip-returns-in-Float-clause-bad t c = rw c.in-Float.is (if_err c.check_number.result (number_missing c.args.depth c.in-Float.text.now c.args.reader.now) c.check_number.ensures.bad)

pub skip-returns-in-BeginArray-clause-ok : goal.skip-returns-in-BeginArray-clause-ok
skip-returns-in-BeginArray-clause-ok t c =
    let opens = coming-begin_array c.args.depth c.args.reader.now c.if-depth-gt0.true in
    rw c.in-BeginArray.is (on_ok_weaker c.skip_items.result (λ ds. (array ds.0, opens ∙ ap (parse_map array) ds.1)) c.skip_items.ensures.ok)

pub skip-returns-in-BeginArray-clause-bad : goal.skip-returns-in-BeginArray-clause-bad
skip-returns-in-BeginArray-clause-bad t c =
    let opens = coming-begin_array c.args.depth c.args.reader.now c.if-depth-gt0.true in
    rw c.in-BeginArray.is (if_err c.skip_items.result (λ none. opens ∙ ap (parse_map array) none) c.skip_items.ensures.bad)

pub skip-returns-in-BeginObject-clause-ok : goal.skip-returns-in-BeginObject-clause-ok
skip-returns-in-BeginObject-clause-ok t c =
    let opens = coming-begin_object c.args.depth c.args.reader.now c.if-depth-gt0-2.true in
    rw c.in-BeginObject.is (on_ok_weaker c.skip_members.result (λ ms. (object ms.0, opens ∙ ap (parse_map object) ms.1)) c.skip_members.ensures.ok)

pub skip-returns-in-BeginObject-clause-bad : goal.skip-returns-in-BeginObject-clause-bad
skip-returns-in-BeginObject-clause-bad t c =
    let opens = coming-begin_object c.args.depth c.args.reader.now c.if-depth-gt0-2.true in
    rw c.in-BeginObject.is (if_err c.skip_members.result (λ none. opens ∙ ap (parse_map object) none) c.skip_members.ensures.bad)

pub skip_next-returns-in_err-token-clause-bad : goal.skip_next-returns-in_err-token-clause-bad
skip_next-returns-in_err-token-clause-bad t c =
    let empty : c.args.reader.now ≡ [] = grind arith in
    let none : coming c.args.depth c.args.reader.now ≡ None = ap (coming c.args.depth) empty ∙ ap (converted of_json) (value_is c.args.depth []) in
    let bad : c.in_err-token.field-0.0 ≡ Refusal.BadJson = grind arith in
    refused c.from_residual.result (err_from_is_err_and c.from_residual.result c.from_residual.ensures.1) (λ _. (bad, none))

-- ---- the items of an array

pub skip_items-items-smaller : goal.skip_items-items-smaller
skip_items-items-smaller t c =
    let going : c.take_end_array.new.self ≡ c.items.reader = grind arith in
    let came = c.in_ok-skip_next.ensures.ok in
    rw going at (coming-shorter c.args.depth c.take_end_array.new.self c.skip_next.new.reader came.0 came.1)

pub skip_items-items-preserved : goal.skip_items-items-preserved
skip_items-items-preserved t c =
    let l = c.items in
    let n = l.invariant.turns in
    let going : (after_end_array l.reader ≡ None) × (c.take_end_array.new.self ≡ l.reader) = grind arith in
    let came = rw going.1 at c.in_ok-skip_next.ensures.ok in
    let less = coming-shorter c.args.depth l.reader c.skip_next.new.reader came.0 came.1 in
    record {
      turns = n - 1;
      enough = omega (arith, l.invariant.enough);
      same = l.invariant.same ∙ ap left (item_passed (value c.args.depth) n l.reader c.skip_next.new.reader came.0 (omega (arith, l.invariant.enough)) going.0 came.1) ∙ left-parse_map (item came.0) _;
    }

pub skip_items-returns-in_err-skip_next-clause-bad : goal.skip_items-returns-in_err-skip_next-clause-bad
skip_items-returns-in_err-skip_next-clause-bad t c =
    let l = c.items in
    let p = value c.args.depth in
    let going : (after_end_array l.reader ≡ None) × (c.take_end_array.new.self ≡ l.reader) = grind arith in
    let none = λ (e : coming c.args.depth c.take_end_array.new.self ≡ None). left_none (coming_items c.args.depth c.args.reader.now) (l.invariant.same ∙ ap left (item_refused p l.invariant.turns l.reader going.0 (rw going.1 at e))) in
    refused c.from_residual.result (err_from_is_err_and c.from_residual.result c.from_residual.ensures.1) (λ ne. let e = c.in_err-skip_next.ensures.bad ne in (e.0, none e.1))

pub skip_items-returns-clause-ok : goal.skip_items-returns-clause-ok
skip_items-returns-clause-ok t c =
    let l = c.items in
    let p = value c.args.depth in
    let over = items_end p l.invariant.turns l.reader c.take_end_array.new.self l.invariant.enough (grind arith) in
    left_some _ _ (l.invariant.same ∙ ap (λ o. left (converted of_items o)) over)

-- ---- the members of an object

pub skip_members-members-init : goal.skip_members-members-init
skip_members-members-init t c = record { turns = length c.args.reader.now; held = no_members; enough = omega arith; same = refl }

pub skip_members-returns-in_err-or-clause-bad : goal.skip_members-returns-in_err-or-clause-bad
skip_members-returns-in_err-or-clause-bad t c =
    let l = c.members in
    let e = or_refused _ c.next_key.result c.in_err-or.field-0.0 c.in_err-or.ensures c.next_key.ensures in
    let none = l.invariant.same ∙ ap (converted (λ ms. of_members ms l.invariant.held)) (members_no_key (value c.args.depth) l.invariant.turns l.reader e.1) in
    refused c.from_residual.result (err_from_is_err_and c.from_residual.result c.from_residual.ensures.1) (λ _. (e.0, none))

pub skip_members-members-smaller : goal.skip_members-members-smaller
skip_members-members-smaller t c =
    let k = c.in-Some.field-0.now in
    let s = c.next_key.new.self in
    let key : read_key c.members.reader ≡ Some (Some k, s) = grind arith in
    let came = c.in_ok-skip_next.ensures.ok in
    let less = coming-shorter c.args.depth s c.skip_next.new.reader came.0 came.1 in
    omega (arith, less, read_key-shorter c.members.reader (Some k) s key)

pub skip_members-members-preserved : goal.skip_members-members-preserved
skip_members-members-preserved t c =
    let l = c.members in
    let n = l.invariant.turns in
    let k = c.in-Some.field-0.now in
    let s = c.next_key.new.self in
    let key : read_key l.reader ≡ Some (Some k, s) = grind arith in
    let came = c.in_ok-skip_next.ensures.ok in
    let less = coming-shorter c.args.depth s c.skip_next.new.reader came.0 came.1 in
    let lesser = read_key-shorter l.reader (Some k) s key in
    record {
      turns = n - 1;
      held = put k came.0 l.invariant.held;
      enough = omega (arith, l.invariant.enough);
      same = l.invariant.same ∙ member_passed (value c.args.depth) l.invariant.held n k l.reader s c.skip_next.new.reader came.0 (omega (arith, l.invariant.enough)) key came.1;
    }

pub skip_members-returns-in_err-skip_next-clause-bad : goal.skip_members-returns-in_err-skip_next-clause-bad
skip_members-returns-in_err-skip_next-clause-bad t c =
    let l = c.members in
    let k = c.in-Some.field-0.now in
    let s = c.next_key.new.self in
    let key : read_key l.reader ≡ Some (Some k, s) = grind arith in
    let none = λ (e : coming c.args.depth s ≡ None). l.invariant.same ∙ member_refused (value c.args.depth) l.invariant.held l.invariant.turns k l.reader s key e in
    refused c.from_residual-in_err-skip_next.result (err_from_is_err_and c.from_residual-in_err-skip_next.result c.from_residual-in_err-skip_next.ensures.1) (λ ne. let e = c.in_err-skip_next.ensures.bad ne in (e.0, none e.1))

pub skip_members-returns-clause-ok : goal.skip_members-returns-clause-ok
skip_members-returns-clause-ok t c =
    let l = c.members in
    let over = members_end (value c.args.depth) l.invariant.turns l.reader c.next_key.new.self l.invariant.enough (grind arith) in
    (l.invariant.held, l.invariant.same ∙ ap (converted (λ ms. of_members ms l.invariant.held)) over)
