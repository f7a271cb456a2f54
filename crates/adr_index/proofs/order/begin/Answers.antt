use Rattle.std.proofs.Common.{◌≡◌, ◌-◌, ◌<◌, suc, true, length, arith, subst, sym, ◌∙◌}
use Rattle.std.proofs.lemmas.List.{get_or_read}
use Rattle.adr_model.specs.declared.entry.Entry.{Entry}
use Rattle.adr_model.specs.Entries.{is_listed_before}
use Rattle.adr_index.proofs.Ordered.{before_place}
use Rattle.adr_index.proofs.order.begin.Goals as goal

pub returns-then-comes_before-clause-before : goal.returns-then-comes_before-clause-before
returns-then-comes_before-clause-before c =
    let inside : c.args.near - 1 < length c.args.entries.now = omega (arith, c.if-near-gt0.true, c.requires.near) in
    let next : c.args.near ≡ suc (c.args.near - 1) = omega (arith, c.if-near-gt0.true) in
    rw next (before_place c.args.entry.now c.args.entries.now (c.args.near - 1) c.requires.order inside
    (λ d. subst (λ (x : Entry). is_listed_before x c.args.entry.now ≡ true) (get_or_read c.args.entries.now (c.args.near - 1) c.index-entries-near.result inside c.index-entries-near.is d) (sym c.comes_before.ensures ∙ c.if-comes_before.true)))
