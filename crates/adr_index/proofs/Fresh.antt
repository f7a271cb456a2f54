-- What is not among the entries.
use Rattle.std.proofs.Common.{◌≡◌, ℕ, false, not, List, refl}
use Rattle.std.specs.List.{list_any}
use Rattle.std.proofs.lemmas.Map.Views.{any-filter_same}
use Rattle.adr_model.specs.declared.entry.Entry.{Entry}
use Rattle.adr_index.specs.Index.{is_entry, without}

-- what is taken out is not there
pub none_without : (written place : ℕ) (es : List Entry) → list_any (is_entry written place) (without written place es) ≡ false
none_without written place es = any-filter_same (is_entry written place) (λ e. not (is_entry written place e)) false (λ e h. rw h refl) es
