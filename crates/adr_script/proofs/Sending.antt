-- Replies that wait, and what of them is written.
use Rattle.std.proofs.Common.{◌≡◌, ℕ, List, [], ◌++◌, sym, ap, ◌∙◌, subst, append_assoc, Option}
use Rattle.std.specs.Io.KnownBytes.{Appends}
use Rattle.std.proofs.KnownBytes.{Appends-trans}
use Rattle.adr_script.specs.Script.{Told, IsToldInPart}
use Rattle.adr_script.specs.Waiting.{Sends}

pub sends-trans : (a b c : Option (List ℕ)) (w0 w1 w2 t u : List ℕ) → Sends a b w0 w1 t → Sends b c w1 w2 u → Sends a c w0 w2 (t ++ u)
sends-trans a b c w0 w1 w2 t u (x, e, p) (y, f, q) = (
  x ++ y,
  sym (append_assoc w0 t u) ∙ ap (λ l. l ++ u) e ∙ append_assoc x w1 u ∙ ap (λ l. x ++ l) f ∙ sym (append_assoc x y w2),
  Appends-trans a b c x y p q,
)

-- all that waited is written, and then the reply is, or a front of it
pub sends-through : (a b c : Option (List ℕ)) (waited flushed reply part more : List ℕ) → flushed ≡ waited → Appends a b flushed
    → reply ≡ part ++ more → Appends b c part → Sends a c waited more reply
sends-through a b c waited flushed reply part more h p e q =
    (waited ++ part, ap (λ l. waited ++ l) e ∙ sym (append_assoc waited part more), Appends-trans a b c waited part (subst (Appends a b) h p) q)

pub sends-as : (a b : Option (List ℕ)) (v w waiting reply : List ℕ) → v ≡ w → Sends a b v waiting reply → Sends a b w waiting reply
sends-as a b v w waiting reply h sent = subst (λ l. Sends a b l waiting reply) h sent

-- a front of what waited is written
pub sends-front : (a b : Option (List ℕ)) (waited reply part more : List ℕ) → waited ≡ part ++ more → Appends a b part → Sends a b waited (more ++ reply) reply
sends-front a b waited reply part more e p = (part, ap (λ l. l ++ reply) e ∙ append_assoc part more reply, p)

-- what waits behind these replies is written
pub sends-all : (a b c : Option (List ℕ)) (waiting out : List ℕ) → Sends a b [] waiting out → Appends b c waiting → Appends a c out
sends-all a b c waiting out (x, e, p) q = subst (Appends a c) (sym e) (Appends-trans a b c x waiting p q)

-- or a front of it
pub sends-part : (a b c : Option (List ℕ)) (waiting out part more : List ℕ) → Sends a b [] waiting out → waiting ≡ part ++ more → Appends b c part → Sends a c [] more out
sends-part a b c waiting out part more (x, e, p) h q =
    (x ++ part, e ∙ ap (λ l. x ++ l) h ∙ sym (append_assoc x part more), Appends-trans a b c x part p q)

-- what is written of the replies to these lines
pub sends-told : {S : Type 0} (answers : S → List ℕ → List ℕ → S → Type 0) (a b : Option (List ℕ)) (s t : S) (lines : List (List ℕ)) (out lost : List ℕ)
    → Told answers s lines out t → Sends a b [] lost out → (written : List ℕ) × Appends a b written × IsToldInPart answers s lines written t
sends-told answers a b s t lines out lost told (x, e, p) = (x, p, (lost, subst (λ o. Told answers s lines o t) e told))
