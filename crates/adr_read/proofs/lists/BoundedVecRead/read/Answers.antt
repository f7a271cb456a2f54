use Rattle.std.proofs.Common.{◌≡◌, ◌∷◌, ◌++◌, ◌∙◌, ◌-◌, [], Some, None, length, refl, sym, ap, arith}
use Rattle.std.proofs.lemmas.Result.{err_from_is_err_and}
use Rattle.json.specs.Token.{Token}
use Rattle.json.specs.Json.{parse_map, after_end_array, value}
use Rattle.adr_read.specs.Tokens.{token_of}
use Rattle.serde_json.specs.Data.{array, no_items}
use Rattle.serde_json.specs.View.{items_of}
use Rattle.adr_read.specs.Coming.{coming}
use Rattle.adr_read.proofs.ComingLemmas.{coming-shorter, coming-as_array, coming-begin_array}
use Rattle.adr_read.proofs.SkipLemmas.{item_passed, item_refused}
use Rattle.adr_read.proofs.Turns.{listed, listed_end, closed-array, items_before, one_more_item, none_before, items_before-none}
use Rattle.adr_read.proofs.Telling.{fault_of, not_begin_array}
use Rattle.adr_read.proofs.ListLaws.{no_list}
use Rattle.adr_read.proofs.lists.BoundedVecRead.read.Goals as goal

pub returns-in_default : goal.returns-in_default
returns-in_default g c =
    let comes = c.in_ok-skip.ensures.ok in
    let none = coming-as_array c.args.depth (token_of c.args.token) c.args.reader.now c.skip.new.reader comes.0 comes.1 (not_begin_array c.args.token c.in_default.not-BeginArray) in
    (comes.0, comes.1, λ _. sym (no_list g.row.LIMIT g.T.Read.faults comes.0 none))

pub returns-then-depth-eq0 : goal.returns-then-depth-eq0
returns-then-depth-eq0 g c _ =
    let ts = c.args.reader.now in
    (refl, ap (λ t. coming c.args.depth (token_of t ∷ ts)) c.in-BeginArray.is ∙ ap (λ depth. coming depth (Token.begin_array ∷ ts)) c.if-depth-eq0.true ∙ closed-array ts)

pub elements-init : goal.elements-init
elements-init g c =
    let ts = c.args.reader.now in
    (length ts, [], omega arith, none_before (listed (c.args.depth - 1) (length ts) ts), rw c.new-items.ensures (c.none-elements.ensures _))

pub returns-in_err-token : goal.returns-in_err-token
returns-in_err-token g c =
    let ts = c.args.reader.now in
    let depth = c.args.depth - 1 in
    let opened = ap (λ t. coming c.args.depth (token_of t ∷ ts)) c.in-BeginArray.is ∙ coming-begin_array c.args.depth ts (omega (arith, c.if-depth-eq0.false)) in
    let so_far = c.elements.invariant in
    let bad = c.in_err-token.ensures.bad in
    let out = err_from_is_err_and c.from_residual-in_err-token.result c.from_residual-in_err-token.ensures.1 in
    let none : listed depth (length ts) ts ≡ None = so_far.3 ∙ ap (parse_map (items_before so_far.1)) (bad.1 depth so_far.0) in
    rw (out.1, out.2) (λ _. (bad.0, opened ∙ ap (parse_map array) none))

pub returns-in_err-element : goal.returns-in_err-element
returns-in_err-element g c =
    let ts = c.args.reader.now in
    let depth = c.args.depth - 1 in
    let opened = ap (λ t. coming c.args.depth (token_of t ∷ ts)) c.in-BeginArray.is ∙ coming-begin_array c.args.depth ts (omega (arith, c.if-depth-eq0.false)) in
    let so_far = c.elements.invariant in
    let s = token_of c.in-Some.token ∷ c.next_element.new.reader in
    let found : (after_end_array c.elements.reader ≡ None) × (c.elements.reader ≡ s) = rw c.in-Some.is at c.in_ok-token.ensures.found in
    let refused : coming depth s ≡ None → listed depth (length ts) ts ≡ None =
    λ none. so_far.3 ∙ ap (parse_map (items_before so_far.1)) (item_refused (value depth) so_far.0 c.elements.reader found.0 (ap (coming depth) found.1 ∙ none))
    in
    let out = err_from_is_err_and c.from_residual-in_err-element.result c.from_residual-in_err-element.ensures.1 in
    rw (out.1, out.2) (fault_of c.in_err-element.field-0.0 (coming depth s) (coming c.args.depth (token_of c.args.token ∷ ts)) (λ none. opened ∙ ap (parse_map array) (refused none)) c.in_err-element.ensures)

pub elements-smaller : goal.elements-smaller
elements-smaller g c =
    let told = c.in_ok-element.ensures in
    let s = token_of c.in-Some.token ∷ c.next_element.new.reader in
    let found : (after_end_array c.elements.reader ≡ None) × (c.elements.reader ≡ s) = rw c.in-Some.is at c.in_ok-token.ensures.found in
    omega (arith, ap length found.1, coming-shorter (c.args.depth - 1) s c.read.new.reader told.0 told.1)

pub elements-preserved : goal.elements-preserved
elements-preserved g c =
    let told = c.in_ok-element.ensures in
    let so_far = c.elements.invariant in
    let depth = c.args.depth - 1 in
    let ts = c.elements.reader in
    let s = token_of c.in-Some.token ∷ c.next_element.new.reader in
    let r = c.read.new.reader in
    let found : (after_end_array ts ≡ None) × (ts ≡ s) = rw c.in-Some.is at c.in_ok-token.ensures.found in
    let less = coming-shorter depth s r told.0 told.1 in
    let len = ap length found.1 in (
      so_far.0 - 1,
      so_far.1 ++ told.0 ∷ [],
      omega (arith, so_far.2, less, len),
      so_far.3 ∙ ap (parse_map (items_before so_far.1)) (item_passed (value depth) so_far.0 ts r told.0 (omega (arith, so_far.2, less, len)) found.0 (ap (coming depth) found.1 ∙ told.1)) ∙ one_more_item so_far.1 told.0 (listed depth (so_far.0 - 1) r),
      c.in_ok-add.ensures.added c.args.context.now.moment so_far.1 told.0 so_far.4 (rw c.next_context-context.ensures at told.2),
    )

pub returns : goal.returns
returns g c =
    let ts = c.args.reader.now in
    let depth = c.args.depth - 1 in
    let opened = ap (λ t. coming c.args.depth (token_of t ∷ ts)) c.in-BeginArray.is ∙ coming-begin_array c.args.depth ts (omega (arith, c.if-depth-eq0.false)) in
    let so_far = c.elements.invariant in
    let r = c.next_element.new.reader in
    let ends : after_end_array c.elements.reader ≡ Some r = rw c.in_default-2.is at c.in_ok-token.ensures.found in
    let all : listed depth (length ts) ts ≡ Some (items_before so_far.1 no_items, r) = so_far.3 ∙ ap (parse_map (items_before so_far.1)) (listed_end depth so_far.0 c.elements.reader r so_far.2 ends) in (
      array (items_of so_far.1),
      opened ∙ ap (parse_map array) all ∙ ap (λ items. Some (array items, r)) (items_before-none so_far.1),
      c.answer.ensures c.args.context.now.moment so_far.1 so_far.4,
    )
