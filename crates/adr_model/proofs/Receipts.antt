-- Worked examples: what each edit touches, by the receipts that a desk gives.
use Rattle.std.specs.Prelude.{◌≡◌, List, [], ◌∷◌, ◌++◌, codes, refl, fold}
use Rattle.std.proofs.Common.{ap, ap₂, ◌∙◌}
use Rattle.adr_object.specs.declared.object.Edit.{Edit}
use Rattle.adr_object.specs.declared.object.Object.TheVariants.{Event as event}
use Rattle.adr_object.specs.declared.object.Edit.TheVariants.{Create}
use Rattle.adr_model.specs.declared.touch.Touch.{Touch}
use Rattle.adr_model.specs.Book.{empty}
use Rattle.adr_model.specs.Edits.{after, after_from, made}
use Rattle.adr_model.specs.Touches.{touches, touches_of}
use Rattle.adr_model.proofs.EditLemmas.{after_all}
use Rattle.adr_model.proofs.Scripts.{setting, span_between, touch}
use Rattle.adr_model.proofs.Rows.{one_hour, one_hour-layout, one_event-after, by_write, first_again, three_first-layout, by_write-after, written_again-after, above_endless, without_above, one_above-layout, above_endless-after, below_again-after, at_six, renamed, at_six-after, renamed-after, by_group, into_group_b, for_group_a-layout, for_group_b-layout, by_group-after, regrouped-after, two_vens, moved_to_w, without_first_ven, for_ven_w-layout, two_vens-after, moved-after, one_ven_less-after, two_resources, without_r1, r1_again, load, price_and_load, price_and_load-layout, two_resources-after, r1_less-after, r1_last-after}

-- what one more edit touches
abbrev receipt : List Edit → Edit → List Touch
receipt edits x = touches (after edits) (after (edits ++ x ∷ []))

setting-after : after setting ≡ fold made empty setting
setting-after = after_all setting (refl, (refl, (refl, tt)))

-- a program, a ven and a resource, where there is no event, touch nothing
setting-touches : touches (after []) (after setting) ≡ []
unfolding touches after_from
setting-touches = rw setting-after refl

-- a created event touches its span
created-touches : receipt setting (Create (event one_hour)) ≡ touch 0 2 ∷ []
unfolding touches
created-touches = rw (setting-after, one_event-after) (rw one_hour-layout refl)

-- a deleted one too
deleted-touches : receipt above_endless without_above ≡ touch 2 4 ∷ []
unfolding touches
deleted-touches = rw (above_endless-after, below_again-after) (rw one_above-layout refl)

-- a changed one touches its old span and then its new one
changed-touches : receipt by_write first_again ≡ touch 0 4 ∷ touch 0 4 ∷ []
unfolding touches
changed-touches = rw (by_write-after, written_again-after) (rw three_first-layout refl)

-- a ven's change touches the event that applied and the one that applies
regrouped-touches : receipt by_group into_group_b ≡ touch 0 4 ∷ touch 0 4 ∷ []
unfolding touches
regrouped-touches = rw (by_group-after, regrouped-after) (rw (for_group_a-layout, for_group_b-layout) refl)

-- a program's change after which the same events apply touches nothing
renamed-touches : receipt at_six renamed ≡ []
unfolding touches
renamed-touches = rw (at_six-after, renamed-after) refl

-- a resource's change touches the event that comes to apply, and the delete of the ven that it left nothing
moved-touches : receipt two_vens moved_to_w ≡ touch 0 4 ∷ []
unfolding touches
moved-touches = rw (two_vens-after, moved-after) (rw for_ven_w-layout refl)

ven_less-touches : receipt (two_vens ++ moved_to_w ∷ []) without_first_ven ≡ []
unfolding touches
ven_less-touches = rw (moved-after, one_ven_less-after) refl

-- a resource that comes or goes touches the spans of what applies to it, one type after the other
abbrev both_types : List Touch
both_types = touch 0 4 ∷ record { resource = codes "r1"; kind = load; window = span_between 0 4 } ∷ []

r1_less-touches : receipt two_resources without_r1 ≡ both_types
unfolding touches
r1_less-touches = rw (two_resources-after, r1_less-after) (rw price_and_load-layout refl)

event_touches : touches_of (codes "r1") (record { event = price_and_load; written = 5 }) ≡ both_types
event_touches = rw price_and_load-layout refl

r1_again-touches : receipt (two_resources ++ without_r1 ∷ []) r1_again ≡ both_types
unfolding touches
r1_again-touches = ap₂ touches r1_less-after r1_last-after ∙ ap (λ l. (l ++ []) ++ []) event_touches
