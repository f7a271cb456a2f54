use Rattle.std.proofs.Common.{◌≡◌, ◌<◌, ℕ, List, [], get_or, length, is_some, ap, subst, sym, ◌∙◌}
use Rattle.std.specs.Option.{option_copied}
use Rattle.adr_object.specs.declared.object.Object.TheVariants.{Ven as ven_object}
use Rattle.adr_model.specs.Book.{ven_by}
use Rattle.adr_keys.specs.Places.{has}
use Rattle.adr_keys.specs.Rows.{offers_key}
use Rattle.adr_keys.specs.declared.key.Key.{Key}
use Rattle.adr_keys.specs.declared.key.Key.TheVariants.{Ven}
use Rattle.adr_audience.proofs.Followed.{not_missing, changed_is_there}
use Rattle.adr_audience.proofs.OfVen.{own_is_named}
use Rattle.adr_audience.proofs.resource_rows.follow_ven.Goals as goal

pub unreachable-requires : goal.unreachable-requires
unreachable-requires c =
    let book = c.args.store.now in
    let ven = c.args.ven.now in
    not_missing (ven_by book ven.id) (ap is_some (sym (ap option_copied c.in_default.is) ∙ c.ven.ensures)) (changed_is_there book (ven_object ven) c.requires.accepted)

pub fresh_rows-requires : goal.fresh_rows-requires
fresh_rows-requires c =
    let book = c.args.store.now in
    let ven = c.args.ven.now in
    let old = c.in-Some.old.now in
    let named = has c.in_ok-named.named in
    record {
      named = own_is_named book ven.id old (sym c.ven.ensures ∙ ap option_copied c.in-Some.is) named
          (subst (λ (rows : List (List Key)). (p : ℕ) → p < length rows → named p ≡ offers_key (get_or rows p []) (Ven old.ven_name)) c.requires.rows c.in_ok-named.ensures.places);
    }
