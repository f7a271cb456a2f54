use Rattle.std.proofs.Common.{◌≡◌, List, ℕ, Some, length, is_some, ap, subst, sym, ◌∙◌}
use Rattle.std.proofs.lemmas.Bool.{both_ways}
use Rattle.std.specs.Option.{option_copied}
use Rattle.adr_object.specs.declared.party.Ven.{Ven}
use Rattle.adr_model.specs.Book.{Book, ven_by}
use Rattle.adr_model.proofs.Keyed.{found}
use Rattle.adr_audience.specs.Keys.{AreKeysOf}
use Rattle.adr_audience.specs.Rows.{places_of_ven}
use Rattle.adr_regroup.specs.Party.{AreOfVen}
use Rattle.adr_regroup.proofs.PartyEdits.{own_places}
use Rattle.adr_regroup.proofs.places.places_of.Goals as goal

pub unreachable-requires : goal.unreachable-requires
unreachable-requires c =
    let there = ven_by c.args.book.now.objects c.args.id.now in
    both_ways (is_some there) (ap is_some (sym c.ven.ensures ∙ ap option_copied c.in_default.is)) c.requires.there

pub returns-clause-places : goal.returns-clause-places
returns-clause-places c =
    let book = c.args.book.now.objects in
    let id = c.args.id.now in
    let ven = c.in-Some.ven.now in
    let places = c.in_ok-places.places.items in
    let there : ven_by book id ≡ Some ven = sym c.ven.ensures ∙ ap option_copied c.in-Some.is in
    let same : ven.id ≡ id = (found (λ (v : Ven). v.id) id book.vens ven there).1 in
    let listed = subst (λ (b : Book). AreKeysOf b c.args.keys.now → ven_by b ven.id ≡ Some ven → places ≡ places_of_ven b ven.id) c.objects.ensures c.in_ok-places.ensures.places
    c.requires.keys (ap (ven_by book) same ∙ there) in
    subst (λ (ps : List ℕ). AreOfVen book id (length book.resources) ps) (sym (listed ∙ ap (places_of_ven book) same)) (own_places book id)
