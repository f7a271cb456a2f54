-- What the book after an accepted edit has to do with the book before it, for the law of local repair.
use Rattle.std.proofs.Common.{◌≡◌, ◌++◌, not, filter}
use Rattle.adr_model.specs.declared.written.Written.{Written}
use Rattle.adr_model.specs.Book.{Book}
use Rattle.adr_model.specs.Lists.{In}
use Rattle.adr_model.specs.Whole.{event_ids}
use Rattle.adr_model.proofs.Lists.{has}

pub record Succeeds (old new : Book) : Type 0 where
  -- events that stay keep their order, and new ones go last
  pub order : event_ids new ≡ filter (has (event_ids new)) (event_ids old) ++ filter (λ id. not (has (event_ids old) id)) (event_ids new)
  -- a number that both books have is that of one write
  pub same_write : (w v : Written) → In w old.events → In v new.events → w.written ≡ v.written → w ≡ v
