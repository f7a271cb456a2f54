-- Bytes of a body that wait until the next number.
use Rattle.std.proofs.Common.{◌≡◌, ◌∙◌, ℕ, ◌-◌, ◌<◌, ◌≤◌, List, [], ◌∷◌, ◌++◌, length, take, refl, sym, ap, subst, arith, Option, Some, None, append-nil, append_assoc}
use Rattle.std.specs.Option.{option_map}
use Rattle.std.proofs.lemmas.List.{take_at, length-append}
use Rattle.adr_value.specs.Pieces.{piece_text, IsCutOff, IsAdded}
use Rattle.adr_value.specs.Shield.{first, quoted, shield_by}
use Rattle.adr_value.specs.declared.shielding.Piece.{Piece}
use Rattle.adr_value.specs.declared.shielding.Piece.TheVariants.{Text, Number, Other}
use Rattle.adr_value.proofs.ShieldLemmas.{Leaves, leaves-nothing, leaves-refused, leaves-rest}

-- once what waits before the rest is added, the rest is left
pub record Waits (whole : Option (List ℕ)) (out waiting rest : List ℕ) : Type 0 where
  pub before : List ℕ
  pub cut : waiting ≡ before ++ rest
  pub left : Leaves whole (out ++ before) rest

itself : (o : Option (List ℕ)) → o ≡ option_map (λ more. more) o
itself None = refl
itself (Some x) = refl

pub waits-begin : (body : List ℕ) → Waits (shield_by (length body) body) [] body body
waits-begin body = record {
  before = [];
  cut = refl;
  left = record { pieces = length body; room = omega arith; left = itself (shield_by (length body) body) };
}

pub waits-length : (whole : Option (List ℕ)) (out waiting rest : List ℕ) → Waits whole out waiting rest → length rest ≤ length waiting
waits-length whole out waiting rest w = omega (arith, ap length w.cut, length-append w.before rest)

pub waits-refused : (whole : Option (List ℕ)) (out waiting rest : List ℕ) → Waits whole out waiting rest → 0 < length rest → None ≡ first rest → whole ≡ None
waits-refused whole out waiting rest w = leaves-refused whole (out ++ w.before) rest w.left

pub waits-nothing : (whole : Option (List ℕ)) (out waiting rest : List ℕ) → Waits whole out waiting rest → length rest ≡ 0 → whole ≡ Some (out ++ waiting)
waits-nothing whole out waiting [] w e =
    leaves-nothing whole (out ++ w.before) [] w.left e ∙ ap (λ xs. Some (out ++ xs)) (sym (w.cut ∙ append-nil w.before))
waits-nothing whole out waiting (c ∷ rest) w e = absurd (omega arith)

kept : (whole : Option (List ℕ)) (old new waiting rest after still piece : List ℕ) → Waits whole old waiting rest → 0 < length rest
    → Some (piece, after) ≡ first rest → length after < length rest → rest ≡ piece ++ after → new ≡ old → still ≡ waiting
    → Waits whole new still after
kept whole old new waiting rest after still piece w some e shorter cut same stays = record {
  before = w.before ++ piece;
  cut = stays ∙ w.cut ∙ ap (λ xs. w.before ++ xs) cut ∙ sym (append_assoc w.before piece after);
  left = subst (λ o. Leaves whole o after) (append_assoc old w.before piece ∙ ap (λ o. o ++ (w.before ++ piece)) (sym same))
      (leaves-rest whole (old ++ w.before) rest (piece, after) w.left some e shorter);
}

added : (whole : Option (List ℕ)) (old new waiting rest after still piece : List ℕ) → Waits whole old waiting rest → 0 < length rest
    → Some (piece, after) ≡ first rest → length after < length rest
    → new ≡ (old ++ take (length waiting - length rest) waiting) ++ piece → still ≡ after → Waits whole new still after
added whole old new waiting rest after still piece w some e shorter more goes =
    let n = length waiting - length rest in
    let len : length w.before ≡ n = omega (arith, ap length w.cut, length-append w.before rest) in
    let front : take n waiting ≡ w.before = ap (take n) w.cut ∙ take_at w.before rest n len in
    let is : new ≡ (old ++ w.before) ++ piece = more ∙ ap (λ xs. (old ++ xs) ++ piece) front in
    record {
      before = [];
      cut = goes;
      left = subst (λ o. Leaves whole o after) (sym is ∙ sym (append-nil new))
          (leaves-rest whole (old ++ w.before) rest (piece, after) w.left some e shorter);
    }

-- one piece on
pub waits-rest : (whole : Option (List ℕ)) (piece : Piece) (old new waiting rest after still : List ℕ) → Waits whole old waiting rest → 0 < length rest
    → Some (piece_text piece, after) ≡ first rest → length after < length rest → IsCutOff piece rest after
    → IsAdded piece old new waiting rest after still → Waits whole new still after
waits-rest whole (Text bytes) old new waiting rest after still w some e shorter cut is =
    kept whole old new waiting rest after still bytes.now w some e shorter cut is.0 is.1
waits-rest whole (Number run) old new waiting rest after still w some e shorter cut is =
    added whole old new waiting rest after still (quoted run.now) w some e shorter is.0 is.1
waits-rest whole (Other byte) old new waiting rest after still w some e shorter cut is =
    kept whole old new waiting rest after still (byte ∷ []) w some e shorter cut is.0 is.1
