use Rattle.std.proofs.Common.{rules, ◌≡◌, ◌++◌, [], true, false, cond, flat_map, option_to_list, ap, sym, ◌∙◌}
use Rattle.std.proofs.lemmas.List.{append-nil}
use Rattle.adr_audience.specs.Offers.{asked_key}
use Rattle.adr_audience.specs.Query.{is_fixed}
use Rattle.adr_audience.proofs.Gathered.{asked_more}
use Rattle.adr_audience.proofs.event_keys.add_asked.Goals.{then-not-is_fixed+in_ok-add_asked_values, else-not-is_fixed}
use Rattle.adr_audience.proofs.event_keys.add_asked.Goals as goal

pub loop-target-preserved : goal.loop-target-preserved
loop-target-preserved c =
    let t = c.target-item.result in
    let ts = c.args.targets.now in
    let more = asked_more c.args.keys.now.items c.loop-target.keys.items ts c.loop-target.target-index t c.loop-target-test.true c.target-item.is c.loop-target.invariant in
    elim c.if-not-is_fixed.branch [
      | then-not-is_fixed+in_ok-add_asked_values b ↦
          let out : is_fixed t.kind ≡ false = sym c.is_fixed.ensures ∙ (search rules) in
          ap (λ xs. xs.items) b.keys-is ∙ b.in_ok-add_asked_values.ensures.ok ∙ ap (λ vs. c.loop-target.keys.items ++ flat_map (λ v. option_to_list (asked_key t.kind v)) vs) b.as_slice.ensures.value
          ∙ ap (λ x. c.loop-target.keys.items ++ cond x [] (flat_map (λ v. option_to_list (asked_key t.kind v)) t.values)) (sym out) ∙ sym more
      | else-not-is_fixed b ↦
          let word : is_fixed t.kind ≡ true = sym c.is_fixed.ensures ∙ (search rules) in
          ap (λ xs. xs.items) b.keys-is ∙ sym (append-nil c.loop-target.keys.items)
          ∙ ap (λ x. c.loop-target.keys.items ++ cond x [] (flat_map (λ v. option_to_list (asked_key t.kind v)) t.values)) (sym word) ∙ sym more
    ]
