-- At which instants lists of entries cover.
use Rattle.std.proofs.Common.{◌≡◌, ℤ, ◌||◌, Bool, true, false, List, [], ◌∷◌, ◌++◌, map, refl, ap, ◌∙◌}
use Rattle.std.proofs.lemmas.List.Folds.{list_any-append}
use Rattle.adr_time.specs.Spans.{covers}
use Rattle.adr_model.specs.declared.entry.Entry.{Entry}
use Rattle.adr_model.specs.declared.entry.Tie.{Tie}
use Rattle.adr_model.specs.Rank.{ranked}
use Rattle.adr_lines.specs.Grouped.{any_covers_at}

pub any_ranked : (tie : Tie) (es : List Entry) (t : ℤ) → any_covers_at (map (ranked tie) es) t ≡ any_covers_at es t
any_ranked tie [] t = refl
any_ranked tie (e ∷ es) t = ap (λ b. covers e.span t || b) (any_ranked tie es t)

pub any_left : (xs ys : List Entry) (t : ℤ) → any_covers_at xs t ≡ true → any_covers_at (xs ++ ys) t ≡ true
any_left xs ys t h = list_any-append (λ (e : Entry). covers e.span t) xs ys ∙ ap (λ b. b || any_covers_at ys t) h

pub any_right : (xs ys : List Entry) (t : ℤ) → any_covers_at ys t ≡ true → any_covers_at (xs ++ ys) t ≡ true
any_right xs ys t h = list_any-append (λ (e : Entry). covers e.span t) xs ys ∙ by (any_covers_at xs t) h
  where
    by : (b : Bool) → any_covers_at ys t ≡ true → (b || any_covers_at ys t) ≡ true
    by true k = refl
    by false k = k
