use Rattle.std.proofs.Common.{◌≡◌, ◌∙◌, ap, sym, subst, if◌then◌else◌, List, ℕ, Bool}
use Rattle.std.specs.List.Sorted.{IsPermutation}
use Rattle.std.specs.Str.{bytes_eq}
use Rattle.std.specs.String.{string_bytes}
use Rattle.adr_value.specs.Payload.{name_of}
use Rattle.adr_model.specs.declared.entry.Entry.{Entry}
use Rattle.adr_index.proofs.Sorted.{distinct_permuted}
use Rattle.adr_lines.specs.Right.{HaveSame}
use Rattle.adr_lines.proofs.Distinct.{distinct_either}
use Rattle.adr_lines.proofs.Filled.{same_permuted}
use Rattle.adr_lines.proofs.Put.{entries_at, entries_put}
use Rattle.adr_lines.proofs.indexes.Indexes.fill.Goals as goal

pub invariant_of-self : goal.invariant_of-self
invariant_of-self c =
    let moved = subst (λ (es : List Entry). IsPermutation es c.in_ok-index.index.entries) (ap (λ v. v.items) c.replace-entries.ensures.value) c.in_ok-index.ensures.entries in
    record {
      distinct =
          distinct_either c.args.self.now.by_name c.insert.new.self (string_bytes c.in_ok-name.name) c.in_ok-index.index c.insert.result
          c.insert.ensures.updates c.insert.ensures.err c.args.self.now.distinct
          (distinct_permuted c.args.group.entries.items c.in_ok-index.index.entries moved c.requires.distinct);
    }

pub returns-clause-own : goal.returns-clause-own
returns-clause-own c k s =
    let moved = subst (λ (es : List Entry). IsPermutation es c.in_ok-index.index.entries) (ap (λ v. v.items) c.replace-entries.ensures.value) c.in_ok-index.ensures.entries in
    let named = c.in_ok-name.ensures.ok ∙ c.name.ensures in
    let put : entries_at c.insert.new.self (name_of k) ≡ c.in_ok-index.index.entries =
    entries_put c.args.self.now.by_name c.insert.new.self (string_bytes c.in_ok-name.name) c.in_ok-index.index c.in_ok-insert.ensures.updates (name_of k)
    ∙ ap (λ (b : Bool). if b then c.in_ok-index.index.entries else entries_at c.args.self.now.by_name (name_of k)) (ap (λ (key : List ℕ). bytes_eq key (name_of k)) named ∙ s) in
    subst (λ (es : List Entry). HaveSame es c.args.group.entries.items) (sym put) (same_permuted c.args.group.entries.items c.in_ok-index.index.entries moved)

pub returns-clause-others : goal.returns-clause-others
returns-clause-others c k s =
    let named = c.in_ok-name.ensures.ok ∙ c.name.ensures in
    entries_put c.args.self.now.by_name c.insert.new.self (string_bytes c.in_ok-name.name) c.in_ok-index.index c.in_ok-insert.ensures.updates (name_of k)
    ∙ ap (λ (b : Bool). if b then c.in_ok-index.index.entries else entries_at c.args.self.now.by_name (name_of k)) (ap (λ (key : List ℕ). bytes_eq key (name_of k)) named ∙ s)
