use Rattle.std.proofs.Common.{◌≡◌, drop, sym, rules, arith}
use Rattle.std.proofs.lemmas.List.{take-append-drop, length-take, length-drop}
use Rattle.adr_index.proofs.chunk.EntryChunk.move_half.Goals as goal

pub returns-clause-entries : goal.returns-clause-entries
returns-clause-entries c =
    let moved : c.extend_from_slice.new.self.items ≡ drop 32 c.args.self.now.entries.items = search rules in
    rw (c.refresh.ensures.entries, c.refresh-2.ensures.entries, c.truncate.ensures.items, moved) (sym (take-append-drop 32 c.args.self.now.entries.items))

pub returns-clause-halves : goal.returns-clause-halves
returns-clause-halves c =
    let moved : c.extend_from_slice.new.self.items ≡ drop 32 c.args.self.now.entries.items = search rules in
    rw (c.refresh.ensures.entries, c.refresh-2.ensures.entries, c.truncate.ensures.items, moved)
    (simp length-take (omega arith), simp length-drop (omega arith))
