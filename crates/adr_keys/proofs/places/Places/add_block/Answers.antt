use Rattle.std.proofs.Common.{◌≡◌, ℕ, ◌+◌, ◌/◌, ◌%◌, ◌||◌, Bool, true, false, eqb, eqb-true, List, refl, ap, sym, ◌∙◌, arith, nat_lt}
use Rattle.std.proofs.lemmas.Bool.{eqb-false}
use Rattle.adr_keys.specs.Blocks.{is_set}
use Rattle.adr_keys.specs.Places.{has, fits, bit}
use Rattle.adr_keys.specs.declared.blocks.Block.{Block}
use Rattle.adr_keys.proofs.Words.{or_false}
use Rattle.adr_keys.proofs.Listing.{block-here, block-next, block-else}
use Rattle.adr_keys.proofs.places.Places.add_block.Goals as goal

pub returns-clause-places : goal.returns-clause-places
returns-clause-places c = λ p h.
    let b = c.args.block.now in
    let up = c.moved_up.result in
    let over = c.over_top.result in
    let old = c.args.self.now in
    let mid = c.add_word.new.self in
    let new = c.add_word-2.new.self in
    let room : fits mid p ≡ true = ap (λ n. nat_lt (p / 64) n) c.add_word.ensures.len ∙ h in
    by p b old mid new up over (eqb (p / 64) (b.start / 64)) (eqb (p / 64) (b.start / 64 + 1)) refl refl
    (λ n. c.add_word.ensures.same p n) (λ e. c.add_word.ensures.added p h e) (λ n. c.add_word-2.ensures.same p n) (λ e. c.add_word-2.ensures.added p room e)
    (λ e. block-here b up over c.moved_up.ensures c.over_top.ensures p e) (λ e. block-next b up over c.moved_up.ensures c.over_top.ensures p e) (λ n m. block-else b up over c.moved_up.ensures c.over_top.ensures p n m)
  where
    by : (p : ℕ) (b : Block) (old mid new : List ℕ) (up over : ℕ) (u v : Bool) → eqb (p / 64) (b.start / 64) ≡ u → eqb (p / 64) (b.start / 64 + 1) ≡ v
        → ((p / 64 ≡ b.start / 64 → ⊥) → has mid p ≡ has old p) → (p / 64 ≡ b.start / 64 → has mid p ≡ (has old p || bit up (p % 64)))
        → ((p / 64 ≡ b.start / 64 + 1 → ⊥) → has new p ≡ has mid p) → (p / 64 ≡ b.start / 64 + 1 → has new p ≡ (has mid p || bit over (p % 64)))
        → (p / 64 ≡ b.start / 64 → bit up (p % 64) ≡ is_set p b) → (p / 64 ≡ b.start / 64 + 1 → bit over (p % 64) ≡ is_set p b)
        → ((p / 64 ≡ b.start / 64 → ⊥) → (p / 64 ≡ b.start / 64 + 1 → ⊥) → is_set p b ≡ false)
        → has new p ≡ (has old p || is_set p b)
    by p b old mid new up over true true d e ns na ms ma here next else = absurd (let x = eqb-true _ _ d in let y = eqb-true _ _ e in omega arith)
    by p b old mid new up over true false d e ns na ms ma here next else = ms (eqb-false _ _ e) ∙ na (eqb-true _ _ d) ∙ ap (λ x. has old p || x) (here (eqb-true _ _ d))
    by p b old mid new up over false true d e ns na ms ma here next else = ma (eqb-true _ _ e) ∙ ap (λ x. x || bit over (p % 64)) (ns (eqb-false _ _ d)) ∙ ap (λ x. has old p || x) (next (eqb-true _ _ e))
    by p b old mid new up over false false d e ns na ms ma here next else = ms (eqb-false _ _ e) ∙ ns (eqb-false _ _ d) ∙ sym (or_false (has old p)) ∙ ap (λ x. has old p || x) (sym (else (eqb-false _ _ d) (eqb-false _ _ e)))
