use Rattle.std.proofs.Common.{◌≡◌, ◌∙◌, ap, sym, subst, arith, rules, refl, List, ℕ}
use Rattle.std.specs.HashMap.{get_by_text}
use Rattle.std.specs.Option.{option_copied_mut}
use Rattle.adr_value.specs.Payload.{name_of}
use Rattle.adr_model.specs.declared.entry.Entry.{Entry}
use Rattle.adr_index.specs.Index.{AreDistinct}
use Rattle.adr_lines.specs.Distinct.{AreAllDistinct}
use Rattle.adr_lines.proofs.Distinct.{distinct_either, distinct_put, distinct_there}
use Rattle.adr_lines.proofs.Put.{entries_same, spare_more, entries_new, spare_first, spare_new}
use Rattle.std.specs.String.{string_bytes}
use Rattle.adr_lines.proofs.indexes.Indexes.reserve_under.Goals as goal

pub returns-in-Some-clause-entries : goal.returns-in-Some-clause-entries
returns-in-Some-clause-entries c k =
    let there = sym c.get_mut.ensures.value ∙ ap option_copied_mut c.in-Some.is in
    entries_same c.args.self.now.by_name c.name.result.now c.in-Some.index.now there
    (c.get_mut.follows.lender c.reserve.new.self) c.reserve.new.self
    ((c.get_mut.follows.holds c.reserve.new.self).3 (search rules)) c.reserve.ensures.entries (name_of k)

pub returns-in-Some-clause-kept : goal.returns-in-Some-clause-kept
returns-in-Some-clause-kept c k =
    let there = sym c.get_mut.ensures.value ∙ ap option_copied_mut c.in-Some.is in
    spare_more c.args.self.now.by_name c.name.result.now c.in-Some.index.now there
    (c.get_mut.follows.lender c.reserve.new.self) c.reserve.new.self
    ((c.get_mut.follows.holds c.reserve.new.self).3 (search rules)) c.reserve.ensures.kept (name_of k)

pub returns-clause-entries : goal.returns-clause-entries
returns-clause-entries c k =
    let here = c.get_mut.follows.lender-at-none in
    let same : here ≡ c.args.self.now.by_name = c.get_mut.follows.holds-at-none in
    let own = c.in_ok-name.ensures.ok ∙ c.name-2.ensures ∙ sym c.name.ensures in
    let none = ap (λ (key : List ℕ). get_by_text c.args.self.now.by_name key) own ∙ sym c.get_mut.ensures.value ∙ ap option_copied_mut c.in_default.is in
    entries_new here c.insert.new.self (string_bytes c.in_ok-name.name) c.reserve-2.new.self c.in_ok-insert.ensures.updates
    (rw same none) (c.in_ok-reserve.ensures.entries ∙ c.new-index.ensures) (name_of k)
    ∙ rw same refl

pub returns-clause-room : goal.returns-clause-room
returns-clause-room c =
    let here = c.get_mut.follows.lender-at-none in
    let own = c.in_ok-name.ensures.ok ∙ c.name-2.ensures in
    spare_first here c.insert.new.self (string_bytes c.in_ok-name.name) c.reserve-2.new.self c.in_ok-insert.ensures.updates
    (name_of c.args.payload_type.now) own c.args.more c.in_ok-reserve.ensures.spare

pub returns-clause-kept : goal.returns-clause-kept
returns-clause-kept c k =
    let here = c.get_mut.follows.lender-at-none in
    let same : here ≡ c.args.self.now.by_name = c.get_mut.follows.holds-at-none in
    let own = c.in_ok-name.ensures.ok ∙ c.name-2.ensures ∙ sym c.name.ensures in
    let none = ap (λ (key : List ℕ). get_by_text c.args.self.now.by_name key) own ∙ sym c.get_mut.ensures.value ∙ ap option_copied_mut c.in_default.is in
    rw (← same) (spare_new here c.insert.new.self (string_bytes c.in_ok-name.name) c.reserve-2.new.self c.in_ok-insert.ensures.updates (rw same none) (name_of k))

pub invariant_of-self : goal.invariant_of-self
invariant_of-self c =
    let there = sym c.get_mut.ensures.value ∙ ap option_copied_mut c.in-Some.is in
    let all = c.args.self.now.distinct in
    record {
      distinct =
          distinct_put c.args.self.now.by_name (c.get_mut.follows.lender c.reserve.new.self) c.name.result.now c.reserve.new.self
          ((c.get_mut.follows.holds c.reserve.new.self).3 (search rules)) all
          (subst (λ (es : List Entry). AreDistinct es) (sym c.reserve.ensures.entries)
          (distinct_there c.args.self.now.by_name c.name.result.now c.in-Some.index.now there all));
    }

pub invariant_of-self-2 : goal.invariant_of-self-2
invariant_of-self-2 c =
    let here = c.get_mut.follows.lender-at-none in
    let same : here ≡ c.args.self.now.by_name = c.get_mut.follows.holds-at-none in
    let empty = c.in_ok-reserve.ensures.entries ∙ c.new-index.ensures in
    record {
      distinct =
          distinct_either here c.insert.new.self (string_bytes c.in_ok-name.name) c.reserve-2.new.self c.insert.result
          c.insert.ensures.updates c.insert.ensures.err
          (subst (λ m. AreAllDistinct m) (sym same) c.args.self.now.distinct)
          (subst (λ (es : List Entry). AreDistinct es) (sym empty) (λ w p. omega arith));
    }
