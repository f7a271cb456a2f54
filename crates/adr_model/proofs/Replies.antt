-- Worked examples: what the machine replies to the edits of a script and to its publication.
use Rattle.std.specs.Prelude.{◌≡◌, List, [], codes, refl}
use Rattle.std.proofs.Common.{ap}
use Rattle.adr_refusal.specs.Faults.{least_fault, judged}
use Rattle.adr_object.specs.declared.object.Edit.{Edit}
use Rattle.adr_object.specs.declared.object.Edit.TheVariants.{Create}
use Rattle.adr_object.specs.declared.object.Object.TheVariants.{Event as event}
use Rattle.adr_model.specs.Edits.{after, after_from, faults_to, full_at, made, step_by, step_to}
use Rattle.adr_model.specs.declared.entry.Tie.TheVariants.{Newest}
use Rattle.adr_model.specs.Machine.{State, Reply, done, published, start, after_edit, after_publish}
use Rattle.adr_model.proofs.Scripts.{setting, program_1}
use Rattle.adr_model.proofs.Rows.{one_hour, one_event, one_event-after, one_hour-layout}

-- with that book and nothing published yet
abbrev having : List Edit → State
having edits = record (start Newest 0) { current = after edits; pending = edits }

abbrev reply_after : List Edit → Edit → Reply
reply_after edits x = (after_edit (having edits) x (step_to (full_at 0) (after edits) x)).0

first_reply : reply_after [] (program_1 (codes "P")) ≡ done 1
unfolding step_by after_from least_fault
first_reply = refl

no_fault : faults_to (full_at 0) (after setting) (Create (event one_hour)) ≡ []
unfolding after_from step_by least_fault
no_fault = rw one_hour-layout refl

event_reply : reply_after setting (Create (event one_hour)) ≡ done 4
unfolding step_by after_from least_fault
event_reply = ap (λ fs. (after_edit (having setting) (Create (event one_hour)) (judged fs (made (after setting) (Create (event one_hour))))).0) no_fault

publication_reply : (after_publish (having one_event)).0 ≡ published 1 4
publication_reply = rw one_event-after refl
