-- The bytes of replies and refusals.
use Rattle.std.specs.Prelude.{ℕ, Bool, true, false, List, ◌++◌, length, codes, decimal}
use Rattle.serde_json.specs.Written.{compact_text}
use Rattle.leg_masks.specs.Interval.{Interval}
use Rattle.http_wire.specs.Answers.{head_text}
use Rattle.http_wire.specs.declared.request.WireFault.{WireFault}
use Rattle.http_wire.specs.declared.request.WireFault.TheVariants.{BadHead, HeadTooLarge, BodyTooLarge, Coding}
use Rattle.http_wire.specs.declared.request.WireFault.TheVariants.{BadLength}
use Rattle.osdm_parts.specs.declared.field.FieldName as texts
use Rattle.osdm_parts.specs.declared.field.FieldName.TheVariants as field
use Rattle.osdm_parts.specs.declared.problem.Problem.{Problem}
use Rattle.osdm_parts.specs.declared.problem.Problem.TheVariants as problem
use Rattle.osdm_parts.specs.Problems.{problem_line, problem_tree}
use Rattle.host_tiny.specs.declared.wish.FieldName.{FieldName}
use Rattle.host_tiny.specs.declared.wish.FieldName.TheVariants.{From, To}
use Rattle.host_tiny.specs.declared.reply.Reply.{Reply}
use Rattle.host_tiny.specs.declared.reply.Reply.TheVariants.{Reserved, NotBuilt, NotJson, BadField}
use Rattle.host_tiny.specs.declared.reply.Reply.TheVariants.{RowsFull, NoPlace, NoMemory}

-- the bytes of an answer with this status, as a problem or not, and this body
abbrev pub whole_text : ℕ → Bool → List ℕ → Bool → List ℕ
whole_text status is_problem body last = head_text status is_problem (length body) last ++ body

-- a problem is answered with its status, and its JSON as the body
abbrev pub problem_text : Problem → Bool → List ℕ
problem_text p last = whole_text (problem_line p).status true (compact_text (problem_tree p)) last

-- a reserved place is answered with 201 and the reservation
abbrev pub reserved_body : ℕ → Interval → List ℕ
reserved_body place span =
    codes "{\"from\":" ++ decimal span.from ++ codes ",\"place\":" ++ decimal place
    ++ codes ",\"to\":" ++ decimal span.to ++ codes "}"

abbrev pub reserved_text : ℕ → Interval → Bool → List ℕ
reserved_text place span last = whole_text 201 false (reserved_body place span) last

abbrev pub field_of : FieldName → texts.FieldName
field_of From = field.From
field_of To = field.To

-- the bytes of a reply: each but the first has its problem
abbrev pub answer_text : Reply → Bool → List ℕ
answer_text (Reserved place span) last = reserved_text place span last
answer_text NotBuilt last = problem_text problem.NotBuilt last
answer_text NotJson last = problem_text problem.NotJson last
answer_text (BadField name) last = problem_text (problem.BadField (field_of name)) last
answer_text RowsFull last = problem_text problem.RowsFull last
answer_text NoPlace last = problem_text problem.NoPlace last
answer_text NoMemory last = problem_text problem.NoMemory last

-- the problem of each fault
abbrev pub problem_of_fault : WireFault → Problem
problem_of_fault BadHead = problem.BadHead
problem_of_fault HeadTooLarge = problem.HeadTooLarge
problem_of_fault BodyTooLarge = problem.BodyTooLarge
problem_of_fault Coding = problem.Coding
problem_of_fault BadLength = problem.BadLength

-- the bytes of a refusal, which is the last answer of its connection
abbrev pub fault_text : WireFault → List ℕ
fault_text fault = problem_text (problem_of_fault fault) true
