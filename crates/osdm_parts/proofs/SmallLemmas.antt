-- The pieces of a small text are its tree written compactly.
use Rattle.std.proofs.Common.{◌≡◌, ℕ, ◌≤◌, List, [], ◌∷◌, ◌++◌, Option, Some, None, codes, decimal, refl, append_assoc}
use Rattle.json.specs.Print.{escape_byte}
use Rattle.serde_json.specs.Written.{compact_text}
use Rattle.history_model.specs.declared.phase.Phase.{Phase}
use Rattle.history_model.specs.declared.phase.Phase.TheVariants.{Ending, Ended}
use Rattle.history_model.specs.declared.phase.EndKind.{EndKind}
use Rattle.history_model.specs.declared.phase.EndKind.TheVariants.{Release}
use Rattle.osdm_parts.specs.declared.field.FieldName.{FieldName}
use Rattle.osdm_parts.specs.declared.field.FieldName.TheVariants.{Adults}
use Rattle.osdm_parts.specs.declared.problem.Problem.{Problem}
use Rattle.osdm_parts.specs.declared.problem.Problem.TheVariants.{BadHead, BadField, UnknownStation, OfferTooOld, WrongState, TooLate}
use Rattle.osdm_parts.specs.Fields.{name_of}
use Rattle.osdm_parts.specs.Statuses.{phase_text, end_text}
use Rattle.osdm_parts.specs.Times.{time_text}
use Rattle.osdm_parts.specs.Problems.{ProblemLine, problem_line, problem_tree, line_tree}
use Rattle.osdm_parts.specs.SmallTexts.{detail_text, AreMoments}
use Rattle.osdm_parts.proofs.Plain.{IsPlain, IsPlain-append, IsPlain-space, IsPlain-time_text}

abbrev pub line_text : ProblemLine → List ℕ
line_text line =
    codes "{\"code\":\"" ++ (line.code ++ (codes "\"" ++ (detail_text line.detail
    ++ (codes ",\"status\":" ++ (decimal line.status ++ (codes ",\"title\":\"" ++ (line.title ++ codes "\"}")))))))

abbrev IsPlainDetail : Option (List ℕ) → Type 0
IsPlainDetail None = Unit {0}
IsPlainDetail (Some detail) = IsPlain detail

compact_line : (code title : List ℕ) (status : ℕ) (detail : Option (List ℕ)) → IsPlain code → IsPlain title → IsPlainDetail detail
    → compact_text (line_tree (record { code = code; status = status; title = title; detail = detail })) ≡ line_text (record { code = code; status = status; title = title; detail = detail })
unfolding escape_byte
compact_line code title status None c t d = rw (c, t) (simp (append_assoc code (34 ∷ []), append_assoc title (34 ∷ [])))
compact_line code title status (Some x) c t d = rw (c, d, t) (simp (append_assoc code (34 ∷ []), append_assoc x (34 ∷ []), append_assoc title (34 ∷ [])))

plain_code : (p : Problem) → IsPlain (problem_line p).code
unfolding escape_byte
plain_code BadHead = refl
plain_code _ = refl

plain_title : (p : Problem) → IsPlain (problem_line p).title
unfolding escape_byte
plain_title BadHead = refl
plain_title _ = refl

plain_name : (name : FieldName) → IsPlain (name_of name)
unfolding escape_byte
plain_name Adults = refl
plain_name _ = refl

plain_end : (kind : EndKind) → IsPlain (end_text kind)
unfolding escape_byte
plain_end Release = refl
plain_end _ = refl

plain_phase : (phase : Phase) → IsPlain (phase_text phase)
unfolding escape_byte
plain_phase (Ending kind) = plain_end kind
plain_phase (Ended kind) = plain_end kind
plain_phase _ = refl

plain_two : (a b : ℕ) → a ≤ 4_102_444_799 → b ≤ 4_102_444_799 → IsPlain (time_text a ++ (codes " " ++ time_text b))
plain_two a b p q = IsPlain-append (time_text a) _ (IsPlain-time_text a p) (IsPlain-append (codes " ") (time_text b) IsPlain-space (IsPlain-time_text b q))

plain_detail : (p : Problem) → AreMoments p → IsPlainDetail (problem_line p).detail
plain_detail (BadField name) h = plain_name name
plain_detail (UnknownStation name) h = plain_name name
plain_detail (WrongState shown) h = plain_phase shown
plain_detail (OfferTooOld made now) h = plain_two made now h.0 h.1
plain_detail (TooLate limit now) h = plain_two limit now h.0 h.1
plain_detail _ h = tt

pub compact_text-problem_tree : (p : Problem) → AreMoments p → compact_text (problem_tree p) ≡ line_text (problem_line p)
compact_text-problem_tree p h =
    let line = problem_line p in
    compact_line line.code line.title line.status line.detail (plain_code p) (plain_title p) (plain_detail p h)
