use Rattle.std.proofs.Common.{◌≡◌, ℕ, ◌-◌, List, ◌++◌, length, take, drop, sym, ap, ◌∙◌, append_assoc, take-append-drop}
use Rattle.std.proofs.lemmas.List.{take_rest}
use Rattle.std.proofs.KnownBytes.{Appends-trans}
use Rattle.adr_script.proofs.output.write_fully.Goals as goal

moves_front : (all part rest : List ℕ) (n : ℕ) → all ≡ part ++ rest → all ≡ (part ++ take n rest) ++ take (length rest - n) (drop n rest)
moves_front all part rest n e =
    e ∙ ap (λ l. part ++ l) (sym (take-append-drop n rest)) ∙ sym (append_assoc part (take n rest) (drop n rest)) ∙ ap (λ l. (part ++ take n rest) ++ l) (sym (take_rest rest n))

pub loop-rest-preserved : goal.loop-rest-preserved
loop-rest-preserved g c =
    let (part, split, appended) = c.loop-rest.invariant.told in
    let rest = c.loop-rest.rest.now in
    let n = c.in_ok-count.count in
    record {
      unfailed = c.in_ok-count.ensures.unfailed ∙ c.loop-rest.invariant.unfailed;
      told = (part ++ take n rest, moves_front _ part rest n split, Appends-trans _ _ _ _ _ appended c.in_ok-count.ensures.ok.2);
    }
