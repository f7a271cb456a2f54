use Rattle.std.proofs.Common.{◌≡◌, ◌+◌, ◌<◌, ◌≤◌, ℕ, true, length, sum_by, IfSome}
use Rattle.adr_schedule.specs.Moves.{is_among}
use Rattle.adr_regroup.specs.Compared.{most_reseated_at}
use Rattle.adr_regroup.specs.Party.{AreSeatedBut, IsSeen}
use Rattle.adr_regroup.proofs.reseat.reseated_all.Given as goal

-- the places so far are seen to, what was seen of the last one holds, and the rest may compare what is left, none more than at first
abbrev pub invariant-rest : goal.invariant-rest
invariant-rest g l = record {
  within : (p : ℕ) → is_among l.rest p ≡ true → p < length l.basis.new.now.objects.resources;
  seated : AreSeatedBut l.basis.tie l.basis.new.now.objects l.rest l.after;
  last : IfSome l.last (IsSeen l.basis.old.now.objects);
  fewer : (p : ℕ) → most_reseated_at l.basis.new.now.objects l.after p ≤ most_reseated_at l.basis.new.now.objects l.fn.schedule p;
  least : l.meter + sum_by (most_reseated_at l.basis.new.now.objects l.fn.schedule) l.rest ≤ l.fn.meter + sum_by (most_reseated_at l.basis.new.now.objects l.fn.schedule) l.places;
}

abbrev pub decreases-rest : goal.decreases-rest
decreases-rest g l = length l.rest
