use Rattle.std.proofs.Common.{◌≡◌, ◌||◌, ℕ, Bool, true, false, List, ◌∷◌, [], get_or, zero, suc, refl, ap, sym, ◌∙◌}
use Rattle.std.proofs.lemmas.Bool.{false≢true, or_right}
use Rattle.adr_keys.specs.declared.key.Key.{Key}
use Rattle.adr_keys.specs.Rows.{offers_key, is_key_of}
use Rattle.adr_keys.proofs.index.KeyIndex.has_key.Goals as goal

at_place : (rows : List (List Key)) (key : Key) (p : ℕ) → offers_key (get_or rows p []) key ≡ true → is_key_of rows key ≡ true
at_place [] key p h = absurd (false≢true h)
at_place (row ∷ rows) key zero h = ap (λ b. b || is_key_of rows key) h
at_place (row ∷ rows) key (suc p) h = or_right (offers_key row key) (is_key_of rows key) (at_place rows key p h)

at_none : (rows : List (List Key)) (key : Key) → ((p : ℕ) → offers_key (get_or rows p []) key ≡ false) → is_key_of rows key ≡ false
at_none [] key h = refl
at_none (row ∷ rows) key h = ap (λ b. b || is_key_of rows key) (h zero) ∙ at_none rows key (λ p. h (suc p))

pub returns : goal.returns
returns c = by c.has_any.result refl
  where
    key : Key
    key = c.args.key.now

    rows : List (List Key)
    rows = c.self.inside.rows.items

    by : (b : Bool) → c.has_any.result ≡ b → c.has_any.result ≡ is_key_of c.args.self.now key
    by true e =
        let t = c.has_any.ensures.some e in
        e ∙ sym (at_place rows key t.0 (sym (c.self.invariant key t.0) ∙ t.1)) ∙ ap (λ r. is_key_of r key) c.self.view_is
    by false e =
        e ∙ sym (at_none rows key (λ p. sym (c.self.invariant key p) ∙ c.has_any.ensures.none e p)) ∙ ap (λ r. is_key_of r key) c.self.view_is
