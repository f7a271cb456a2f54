-- When what governs changes next: there is one answer.
use Rattle.std.proofs.Common.{◌≡◌, ◌≢◌, ℕ, ℤ, ◌≤ℤ◌, ◌<ℤ◌, Bool, true, false, List, Option, refl, sym, ap, ◌∙◌, arith}
use Rattle.std.specs.Prelude.{int_lt}
use Rattle.std.proofs.lemmas.Int.{ints}
use Rattle.adr_value.specs.declared.payload.PayloadType.{PayloadType}
use Rattle.adr_time.specs.declared.span.End.{End}
use Rattle.adr_time.specs.declared.span.End.TheVariants.{At, Endless}
use Rattle.adr_model.specs.declared.entry.Tie.{Tie}
use Rattle.adr_model.specs.declared.timeline.Winner.{Winner}
use Rattle.adr_model.specs.Answer.{IsUntil, until}
use Rattle.adr_model.specs.Book.{Book}
use Rattle.adr_model.specs.Governor.{governs}
use Rattle.adr_model.proofs.AnswerLaws.{until_is_the_next_change}

module _ (f g : ℤ → Option Winner) (t : ℤ) (alike : (u : ℤ) → f u ≡ g u) where
  -- where the one changes the other one does
  not_earlier : (u : ℤ) → t <ℤ u → f u ≢ f t → ((v : ℤ) → t ≤ℤ v → v ≡ u → g v ≡ g t) → ⊥
  not_earlier u after differs stays = differs (alike u ∙ stays u (le t u after) refl ∙ sym (alike t))
    where
      le : (a b : ℤ) → a <ℤ b → a ≤ℤ b
      le a b h = omega (arith, ints)

  not_later : (u : ℤ) → t <ℤ u → g u ≢ g t → ((v : ℤ) → t ≤ℤ v → v ≡ u → f v ≡ f t) → ⊥
  not_later u after differs stays = differs (sym (alike u) ∙ stays u (le t u after) refl ∙ alike t)
    where
      le : (a b : ℤ) → a <ℤ b → a ≤ℤ b
      le a b h = omega (arith, ints)

  pub one_until : (a b : End) → IsUntil f t a → IsUntil g t b → a ≡ b
  one_until Endless Endless h k = refl
  one_until (At u) Endless h k = absurd (not_earlier u h.0 h.1 (λ v le is. k v le))
  one_until Endless (At v) h k = absurd (not_later v k.0 k.1 (λ u le is. h u le))
  one_until (At u) (At v) h k = by (int_lt u v) (int_lt v u) refl refl
    where
      under : (a b c : ℤ) → int_lt a b ≡ true → c ≡ a → c <ℤ b
      under a b c l is = grind (arith, ints)

      same : (a b : ℤ) → int_lt a b ≡ false → int_lt b a ≡ false → a ≡ b
      same a b l m = grind (arith, ints)

      by : (c d : Bool) → int_lt u v ≡ c → int_lt v u ≡ d → At u ≡ At v
      by true d l m = absurd (not_earlier u h.0 h.1 (λ w le is. k.2 w le (under u v w l is)))
      by false true l m = absurd (not_later v k.0 k.1 (λ w le is. h.2 w le (under v u w m is)))
      by false false l m = ap At (same u v l m)

-- so of a timeline that shows what governs it is the definition's
pub until_shown : (tie : Tie) (book : Book) (id : List ℕ) (kind : PayloadType) (f : ℤ → Option Winner) (t : ℤ) (end : End)
    → ((u : ℤ) → f u ≡ governs tie book id kind u) → IsUntil f t end → end ≡ until tie book id kind t
until_shown tie book id kind f t end alike h =
    one_until f (λ u. governs tie book id kind u) t alike end (until tie book id kind t) h (until_is_the_next_change tie book id kind t)
