use Rattle.std.proofs.Common.{refl, ◌≡◌, ◌∙◌, ap, sym, subst, arith, rules, if◌then◌else◌, List, ℕ}
use Rattle.std.specs.Option.{option_copied_mut}
use Rattle.std.specs.Str.{bytes_eq}
use Rattle.adr_value.specs.Payload.{name_of}
use Rattle.adr_model.specs.declared.entry.Entry.{Entry}
use Rattle.adr_index.specs.Index.{others_all, AreDistinct}
use Rattle.adr_lines.proofs.Distinct.{distinct_others_all, distinct_put, distinct_there}
use Rattle.adr_lines.proofs.Put.{entries_at, entries_changed, none_changed, spare_more}
use Rattle.adr_lines.proofs.Turns.{none_left, own_changed}
use Rattle.adr_lines.proofs.indexes.Indexes.take.Goals as goal

pub returns-in-Some-clause-entries : goal.returns-in-Some-clause-entries
returns-in-Some-clause-entries c k =
    let there = sym c.get_mut.ensures.value ∙ ap option_copied_mut c.in-Some.is in
    let xs = c.args.group.now.entries.items in
    entries_changed c.args.self.now.by_name c.name.result.now c.in-Some.index.now there (others_all xs)
    (c.get_mut.follows.lender c.replace.new.self) c.replace.new.self
    ((c.get_mut.follows.holds c.replace.new.self).3 (search rules))
    (c.replace.ensures.entries ∙ ap (λ (es : List Entry). others_all es c.in-Some.index.now.entries) c.as_slice.ensures.value) (name_of k)
    ∙ ap (λ (key : List ℕ). if bytes_eq key (name_of k) then others_all xs (entries_at c.args.self.now.by_name (name_of k)) else entries_at c.args.self.now.by_name (name_of k)) c.name.ensures
    ∙ own_changed others_all (λ es. refl) c.args.group.now k (entries_at c.args.self.now.by_name (name_of k))

pub returns-in-Some-clause-spare : goal.returns-in-Some-clause-spare
returns-in-Some-clause-spare c k =
    let there = sym c.get_mut.ensures.value ∙ ap option_copied_mut c.in-Some.is in
    spare_more c.args.self.now.by_name c.name.result.now c.in-Some.index.now there
    (c.get_mut.follows.lender c.replace.new.self) c.replace.new.self
    ((c.get_mut.follows.holds c.replace.new.self).3 (search rules))
    (let kept = c.replace.ensures.spare in omega arith) (name_of k)

pub returns-in_default-clause-entries : goal.returns-in_default-clause-entries
returns-in_default-clause-entries c k =
    let same : c.get_mut.follows.lender-at-none ≡ c.args.self.now.by_name = c.get_mut.follows.holds-at-none in
    let none = sym c.get_mut.ensures.value ∙ ap option_copied_mut c.in_default.is in
    let xs = c.args.group.now.entries.items in
    rw same
    (none_changed c.args.self.now.by_name c.name.result.now none (others_all xs) (none_left xs) (name_of k)
    ∙ ap (λ (key : List ℕ). if bytes_eq key (name_of k) then others_all xs (entries_at c.args.self.now.by_name (name_of k)) else entries_at c.args.self.now.by_name (name_of k)) c.name.ensures
    ∙ own_changed others_all (λ es. refl) c.args.group.now k (entries_at c.args.self.now.by_name (name_of k)))

pub invariant_of-self : goal.invariant_of-self
invariant_of-self c =
    let there = sym c.get_mut.ensures.value ∙ ap option_copied_mut c.in-Some.is in
    let all = c.args.self.now.distinct in
    record {
      distinct =
          distinct_put c.args.self.now.by_name (c.get_mut.follows.lender c.replace.new.self) c.name.result.now c.replace.new.self
          ((c.get_mut.follows.holds c.replace.new.self).3 (search rules)) all
          (subst (λ (es : List Entry). AreDistinct es) (sym c.replace.ensures.entries)
          (distinct_others_all c.as_slice.result.now c.in-Some.index.now.entries (distinct_there c.args.self.now.by_name c.name.result.now c.in-Some.index.now there all)));
    }
