use Rattle.std.proofs.Common.{rules, ◌≡◌, ◌++◌, [], true, false, cond, map, ap, sym, ◌∙◌}
use Rattle.std.proofs.lemmas.List.{append-nil}
use Rattle.adr_keys.specs.declared.key.Key.TheVariants.{Value}
use Rattle.adr_audience.specs.Offers.{is_word}
use Rattle.adr_audience.proofs.Gathered.{targets_more}
use Rattle.adr_audience.proofs.resource_keys.add_targets.Goals.{then-not-is_word+in_ok-add_values, else-not-is_word}
use Rattle.adr_audience.proofs.resource_keys.add_targets.Goals as goal

pub loop-target-preserved : goal.loop-target-preserved
loop-target-preserved c =
    let t = c.target-item.result in
    let ts = c.args.targets.now in
    let more = targets_more c.args.keys.now.items c.loop-target.keys.items ts c.loop-target.target-index t c.loop-target-test.true c.target-item.is c.loop-target.invariant in
    elim c.if-not-is_word.branch [
      | then-not-is_word+in_ok-add_values b ↦
          let out : is_word t.kind ≡ false = ap is_word (sym c.as_str.ensures.value) ∙ sym c.is_word.ensures ∙ (search rules) in
          ap (λ xs. xs.items) b.keys-is ∙ b.in_ok-add_values.ensures.ok ∙ ap (λ vs. c.loop-target.keys.items ++ map (λ v. Value t.kind v) vs) b.as_slice.ensures.value
          ∙ ap (λ x. c.loop-target.keys.items ++ cond x [] (map (λ v. Value t.kind v) t.values)) (sym out) ∙ sym more
      | else-not-is_word b ↦
          let word : is_word t.kind ≡ true = ap is_word (sym c.as_str.ensures.value) ∙ sym c.is_word.ensures ∙ (search rules) in
          ap (λ xs. xs.items) b.keys-is ∙ sym (append-nil c.loop-target.keys.items)
          ∙ ap (λ x. c.loop-target.keys.items ++ cond x [] (map (λ v. Value t.kind v) t.values)) (sym word) ∙ sym more
    ]
