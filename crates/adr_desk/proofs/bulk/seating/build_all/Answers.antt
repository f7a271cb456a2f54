use denote.Param.Send.{sendable}
use Rattle.std.proofs.Common.{ap, ◌∙◌}
use Rattle.std.proofs.Crossing as std
use Rattle.adr_book.proofs.Crossing.{book_sync}
use Rattle.adr_group.proofs.Crossing.{group_send, writes_sync}
use Rattle.adr_desk.proofs.Seats.{built_groups, built_refusal}
use Rattle.adr_desk.proofs.bulk.seating.build_all.Goals as goal

pub map-requires-send-F : goal.map-requires-send-F
map-requires-send-F g c κs within = search (sendable, std.crosses, book_sync) depth 60 fits 60000

pub map-requires-send-U : goal.map-requires-send-U
map-requires-send-U g c κs within = search (sendable, std.crosses, group_send) depth 60 fits 60000

pub map-requires-sync-F : goal.map-requires-sync-F
map-requires-sync-F g c κs within = search (sendable, std.crosses, book_sync) depth 60 fits 60000

pub collect-requires-send-Self : goal.collect-requires-send-Self
collect-requires-send-Self g c κs within = search (sendable, std.crosses, book_sync, writes_sync) depth 60 fits 60000

pub collect-requires-send-Self-Item : goal.collect-requires-send-Self-Item
collect-requires-send-Self-Item g c κs within = search (sendable, std.crosses, group_send) depth 60 fits 60000

pub collect-requires-send-C : goal.collect-requires-send-C
collect-requires-send-C g c κs within = search (sendable, std.crosses, group_send) depth 60 fits 60000

pub returns-clause-groups : goal.returns-clause-groups
returns-clause-groups g c =
    let made_all = c.in_ok-collect.ensures in
    let chain = made_all.1 in
    let f = c.map.result.f in
    let slice = ap (λ it. it.base.slice.now) c.map.ensures.base ∙ ap (λ it. it.slice.now) c.with_min_len.ensures.base ∙ c.par_iter.ensures in
    built_groups f.1.now c.args.tie f.2.now.objects.events c.args.book.now.objects.events (ap (λ x. x.1.now) c.map.ensures.f) (ap (λ x. x.2.now.objects.events) c.map.ensures.f)
    (λ v. v.items) c.args.jobs.now chain.0 made_all.0 c.in_ok-collect.field-0 (chain.1 ∙ slice) chain.2 made_all.2

pub returns-clause-refusal : goal.returns-clause-refusal
returns-clause-refusal g c =
    let made_all = c.in_ok-collect.ensures in
    let chain = made_all.1 in
    let f = c.map.result.f in
    let slice = ap (λ it. it.base.slice.now) c.map.ensures.base ∙ ap (λ it. it.slice.now) c.with_min_len.ensures.base ∙ c.par_iter.ensures in
    built_refusal f.1.now c.args.tie f.2.now.objects.events c.args.book.now.objects.events (ap (λ x. x.1.now) c.map.ensures.f) (ap (λ x. x.2.now.objects.events) c.map.ensures.f)
    (λ v. v.items) c.args.jobs.now chain.0 made_all.0 c.in_ok-collect.field-0 (chain.1 ∙ slice) chain.2 made_all.2
