use Rattle.std.proofs.Common.{refl, ◌≤◌, ◌+◌, ◌∙◌, ap, sym, subst, rules, length, if◌then◌else◌, List, ℕ}
use Rattle.std.specs.Option.{option_copied_mut}
use Rattle.std.specs.Str.{bytes_eq}
use Rattle.adr_value.specs.Payload.{name_of}
use Rattle.adr_model.specs.declared.entry.Entry.{Entry}
use Rattle.adr_index.specs.Index.{inserted_all, AreDistinct, AreNew}
use Rattle.adr_lines.proofs.Distinct.{distinct_inserted_all, distinct_put, distinct_there}
use Rattle.adr_lines.proofs.Put.{entries_at, spare_at, entries_changed, entries_there, spare_taken, spare_there}
use Rattle.adr_lines.proofs.Turns.{own_changed, own_length}
use Rattle.adr_lines.proofs.indexes.Indexes.put.Goals as goal

pub replace-requires-clause-room : goal.replace-requires-clause-room
replace-requires-clause-room c =
    let there = sym c.get_mut.ensures.value ∙ ap option_copied_mut c.in-Some.is in
    let e = ap (λ (k : List ℕ). spare_at c.args.self.now.by_name k) (sym c.name.ensures) ∙ spare_there c.args.self.now.by_name c.name.result.now c.in-Some.index.now there in
    let n = ap (λ (es : List Entry). length es) c.as_slice.ensures.value in
    subst (λ (m : ℕ). m ≤ c.in-Some.index.now.spare) (sym n) (subst (λ (m : ℕ). length c.args.group.now.entries.items ≤ m) e c.requires.room)

pub replace-requires-clause-fresh : goal.replace-requires-clause-fresh
replace-requires-clause-fresh c =
    let there = sym c.get_mut.ensures.value ∙ ap option_copied_mut c.in-Some.is in
    let e = ap (λ (k : List ℕ). entries_at c.args.self.now.by_name k) (sym c.name.ensures) ∙ entries_there c.args.self.now.by_name c.name.result.now c.in-Some.index.now there in
    subst (λ (es : List Entry). AreNew es c.in-Some.index.now.entries) (sym c.as_slice.ensures.value)
    (subst (λ (es : List Entry). AreNew c.args.group.now.entries.items es) e c.requires.fresh)

pub returns-in-Some-clause-entries : goal.returns-in-Some-clause-entries
returns-in-Some-clause-entries c k =
    let there = sym c.get_mut.ensures.value ∙ ap option_copied_mut c.in-Some.is in
    let xs = c.args.group.now.entries.items in
    entries_changed c.args.self.now.by_name c.name.result.now c.in-Some.index.now there (inserted_all xs)
    (c.get_mut.follows.lender c.replace.new.self) c.replace.new.self
    ((c.get_mut.follows.holds c.replace.new.self).3 (search rules))
    (c.replace.ensures.entries ∙ ap (λ (es : List Entry). inserted_all es c.in-Some.index.now.entries) c.as_slice.ensures.value) (name_of k)
    ∙ ap (λ (key : List ℕ). if bytes_eq key (name_of k) then inserted_all xs (entries_at c.args.self.now.by_name (name_of k)) else entries_at c.args.self.now.by_name (name_of k)) c.name.ensures
    ∙ own_changed inserted_all (λ es. refl) c.args.group.now k (entries_at c.args.self.now.by_name (name_of k))

pub returns-in-Some-clause-spare : goal.returns-in-Some-clause-spare
returns-in-Some-clause-spare c k =
    let there = sym c.get_mut.ensures.value ∙ ap option_copied_mut c.in-Some.is in
    let xs = c.args.group.now.entries.items in
    subst (λ (m : ℕ). spare_at c.args.self.now.by_name (name_of k) ≤ spare_at (c.get_mut.follows.lender c.replace.new.self) (name_of k) + m)
    (ap (λ (key : List ℕ). if bytes_eq key (name_of k) then length xs else 0) c.name.ensures ∙ sym (own_length c.args.group.now k))
    (spare_taken c.args.self.now.by_name c.name.result.now c.in-Some.index.now there
    (c.get_mut.follows.lender c.replace.new.self) c.replace.new.self (length xs)
    ((c.get_mut.follows.holds c.replace.new.self).3 (search rules))
    (subst (λ (es : List Entry). c.in-Some.index.now.spare ≤ c.replace.new.self.spare + length es) c.as_slice.ensures.value c.replace.ensures.spare) (name_of k))

pub invariant_of-self : goal.invariant_of-self
invariant_of-self c =
    let there = sym c.get_mut.ensures.value ∙ ap option_copied_mut c.in-Some.is in
    let all = c.args.self.now.distinct in
    let e = ap (λ (k : List ℕ). entries_at c.args.self.now.by_name k) (sym c.name.ensures) ∙ entries_there c.args.self.now.by_name c.name.result.now c.in-Some.index.now there in
    let fresh : AreNew c.as_slice.result.now c.in-Some.index.now.entries =
    subst (λ (es : List Entry). AreNew es c.in-Some.index.now.entries) (sym c.as_slice.ensures.value)
    (subst (λ (es : List Entry). AreNew c.args.group.now.entries.items es) e c.requires.fresh) in
    record {
      distinct =
          distinct_put c.args.self.now.by_name (c.get_mut.follows.lender c.replace.new.self) c.name.result.now c.replace.new.self
          ((c.get_mut.follows.holds c.replace.new.self).3 (search rules)) all
          (subst (λ (es : List Entry). AreDistinct es) (sym c.replace.ensures.entries)
          (distinct_inserted_all c.as_slice.result.now c.in-Some.index.now.entries fresh (distinct_there c.args.self.now.by_name c.name.result.now c.in-Some.index.now there all)));
    }
