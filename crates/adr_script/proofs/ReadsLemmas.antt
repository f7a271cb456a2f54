-- One read more, and how a run ends.
use Rattle.std.proofs.Common.{◌≡◌, ℕ, List, [], ◌++◌, refl, sym, ap, subst, Option, Bool, true, false, Result, Ok, Err, OnOk, OnErr, IfErr}
use Rattle.std.specs.Io.KnownBytes.{Consumes, Appends, Keeps, IsAtEnd}
use Rattle.std.proofs.KnownBytes.{Consumes-trans, Consumes-kept, Appends-trans}
use Rattle.adr_script.specs.Lines.{complete_from, rest_from, last_line, all_lines}
use Rattle.adr_script.specs.Script.{Told, IsToldInPart, Moves}
use Rattle.adr_script.specs.declared.fault.Fault.{Fault}
use Rattle.adr_script.specs.declared.fault.Fault.TheVariants.{Reading, Reads, Writing, Runtime}
use Rattle.adr_script.specs.declared.log.ReadLog.{ReadLog}
use Rattle.adr_script.specs.declared.log.WriteLog.{WriteLog}
use Rattle.adr_script.specs.Ending.{Ends}
use Rattle.adr_script.specs.Logs.{has_read_failed, has_ended, has_write_failed, IsReplyFault}
use Rattle.adr_script.proofs.Cutting.{complete-append}
use Rattle.adr_script.proofs.Telling.{told-append, part-behind, part-more}

abbrev pub failed : (A : Type 0) → Fault → Result A Fault
failed A fault = Err fault

fault_of : (A : Type 0) → Result A Fault → Fault
fault_of A (Ok x) = Writing
fault_of A (Err fault) = fault

pub same_fault : (A : Type 0) (f g : Fault) → failed A f ≡ failed A g → f ≡ g
unfolding fault_of
same_fault A f g h = ap (fault_of A) h

is_writing : (A : Type 0) → Result A Fault → Bool
is_writing A (Ok x) = false
is_writing A (Err Reading) = false
is_writing A (Err Reads) = false
is_writing A (Err Writing) = true
is_writing A (Err Runtime) = false

unwritten : (A : Type 0) (b : Bool) → (b ≡ true → failed A Runtime ≡ failed A Writing) → b ≡ false
unfolding is_writing
unwritten A false h = refl
unwritten A true h = sym (ap (is_writing A) (h refl))

module _ {S : Type 0} (answers : S → List ℕ → List ℕ → S → Type 0) where
  -- the end of the input
  pub moves_all : (l0 l1 l2 h0 h1 h2 : Option (List ℕ)) (s t u : S) (bytes out rest : List ℕ) → Consumes l0 l1 bytes → Keeps l1 l2
      → Appends h0 h1 out → Appends h1 h2 rest → Told answers s (complete_from [] bytes) out t → Told answers t (last_line (rest_from [] bytes)) rest u
      → Moves l0 l2 h0 h2 (λ bytes out. Told answers s (all_lines bytes) out u)
  moves_all l0 l1 l2 h0 h1 h2 s t u bytes out rest p q a b told last = (
    bytes,
    out ++ rest,
    Consumes-kept l0 l1 l2 bytes p q,
    Appends-trans h0 h1 h2 out rest a b,
    told-append answers s t u (complete_from [] bytes) (last_line (rest_from [] bytes)) out rest told last,
  )

  -- the last line's reply is cut short
  pub moves_short : (l0 l1 l2 h0 h1 h2 : Option (List ℕ)) (s t u : S) (bytes out part : List ℕ) → Consumes l0 l1 bytes → Keeps l1 l2
      → Appends h0 h1 out → Appends h1 h2 part → Told answers s (complete_from [] bytes) out t → IsToldInPart answers t (last_line (rest_from [] bytes)) part u
      → Moves l0 l2 h0 h2 (λ bytes out. IsToldInPart answers s (all_lines bytes) out u)
  moves_short l0 l1 l2 h0 h1 h2 s t u bytes out part p q a b told last = (
    bytes,
    out ++ part,
    Consumes-kept l0 l1 l2 bytes p q,
    Appends-trans h0 h1 h2 out part a b,
    part-behind answers s t u (complete_from [] bytes) (last_line (rest_from [] bytes)) out part told last,
  )

  pub told_piece : (s t u : S) (bytes piece out rest : List ℕ) → Told answers s (complete_from [] bytes) out t → Told answers t (complete_from (rest_from [] bytes) piece) rest u
      → Told answers s (complete_from [] (bytes ++ piece)) (out ++ rest) u
  told_piece s t u bytes piece out rest told more =
      subst (λ ls. Told answers s ls (out ++ rest) u) (sym (complete-append [] bytes piece))
      (told-append answers s t u (complete_from [] bytes) (complete_from (rest_from [] bytes) piece) out rest told more)

  -- the replies stop amid a piece
  pub moves_cut : (l0 l1 l2 h0 h1 h2 : Option (List ℕ)) (s t u : S) (bytes piece out part : List ℕ) → Consumes l0 l1 bytes → Consumes l1 l2 piece
      → Appends h0 h1 out → Appends h1 h2 part → Told answers s (complete_from [] bytes) out t → IsToldInPart answers t (complete_from (rest_from [] bytes) piece) part u
      → Moves l0 l2 h0 h2 (λ bytes out. IsToldInPart answers s (all_lines bytes) out u)
  moves_cut l0 l1 l2 h0 h1 h2 s t u bytes piece out part p q a b told cut = (
    bytes ++ piece,
    out ++ part,
    Consumes-trans l0 l1 l2 bytes piece p q,
    Appends-trans h0 h1 h2 out part a b,
    part-more answers s u (complete_from [] (bytes ++ piece)) (last_line (rest_from [] (bytes ++ piece))) (out ++ part)
        (subst (λ ls. IsToldInPart answers s ls (out ++ part) u) (sym (complete-append [] bytes piece))
        (part-behind answers s t u (complete_from [] bytes) (complete_from (rest_from [] bytes) piece) out part told cut)),
  )

  -- where a reply isn't written, the run ends
  module _ {A : Type 0} (halts : Type 0) (l0 l2 h0 h2 : Option (List ℕ)) (s u : S) (reads : ReadLog) (writes : WriteLog) (unfailed : has_read_failed reads ≡ false) where
    pub ends_amid : (fault : Fault) → Moves l0 l2 h0 h2 (λ bytes out. IsToldInPart answers s (all_lines bytes) out u)
        → IsReplyFault writes halts fault → (has_write_failed writes ≡ true → failed A fault ≡ failed A Writing)
        → Ends answers halts l0 l2 h0 h2 s u reads writes (failed A fault)
    ends_amid Reading moves cause write = absurd cause
    ends_amid Reads moves cause write = absurd cause
    ends_amid Writing moves cause write = (moves, unfailed, cause)
    ends_amid Runtime moves cause write = (moves, cause, unfailed, unwritten A (has_write_failed writes) write)

    -- the last line is answered, or the run ends amid it
    pub ends_whole : (result : Result A Fault) → IsAtEnd l2 → has_ended reads ≡ true
        → OnOk result (Moves l0 l2 h0 h2 (λ bytes out. Told answers s (all_lines bytes) out u))
        → OnErr result (Moves l0 l2 h0 h2 (λ bytes out. IsToldInPart answers s (all_lines bytes) out u))
        → IfErr result (IsReplyFault writes halts) → OnOk result (has_write_failed writes ≡ false)
        → (has_write_failed writes ≡ true → result ≡ Err Writing) → Ends answers halts l0 l2 h0 h2 s u reads writes result
    ends_whole (Ok x) end ended all part fault unwritten write = (all, end, ended, unfailed, unwritten)
    ends_whole (Err f) end ended all part fault unwritten write = ends_amid f part fault write

  -- a read failed
  pub ends_reading : (A : Type 0) (halts : Type 0) (l0 l1 l2 h0 h1 : Option (List ℕ)) (s t : S) (reads : ReadLog) (writes : WriteLog) (bytes out : List ℕ)
      → Consumes l0 l1 bytes → Keeps l1 l2 → Appends h0 h1 out → Told answers s (complete_from [] bytes) out t
      → has_read_failed reads ≡ true → has_write_failed writes ≡ false → (fault : Fault) → fault ≡ Reading
      → Ends answers halts l0 l2 h0 h1 s t reads writes (failed A fault)
  ends_reading A halts l0 l1 l2 h0 h1 s t reads writes bytes out p q a told read write fault h =
      subst (λ f. Ends answers halts l0 l2 h0 h1 s t reads writes (failed A f)) (sym h) ((bytes, out, Consumes-kept l0 l1 l2 bytes p q, a, told), read, write)
