-- The bytes of an answer: a head of HTTP/1.1 with a JSON text after it.
use Rattle.std.specs.Prelude.{ℕ, Bool, true, false, List, ◌++◌, length}
use Rattle.serde_json.specs.Written.{compact_text}
use Rattle.http_wire.specs.Answers.{head_text}
use Rattle.catalogue_contents.specs.Contents.{CatalogueView}
use Rattle.osdm_parts.specs.Problems.{problem_line, problem_tree}
use Rattle.osdm_texts.specs.Answers.{Reply, status_of, tree_of, is_problem, Told, refused, told}

-- a head with its body after it
abbrev pub answer_text : ℕ → Bool → Bool → List ℕ → List ℕ
answer_text status is_problem last body = head_text status is_problem (length body) last ++ body

-- the bytes of the whole answer
unfoldable pub reply_bytes : CatalogueView → Bool → Reply → List ℕ
reply_bytes cat last reply = answer_text (status_of reply) (is_problem reply) last (compact_text (tree_of cat reply))

-- the bytes that tell what a service answered
abbrev pub told_bytes : Bool → Told → List ℕ
told_bytes last (refused p) = answer_text (problem_line p).status true last (compact_text (problem_tree p))
told_bytes last (told status length text) = head_text status false length last ++ text
