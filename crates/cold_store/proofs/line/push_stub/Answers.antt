use Rattle.std.proofs.Common.{◌≡◌, ◌∙◌, ◌++◌, ◌∷◌, [], ℕ, List, append_assoc, append-nil, decimal, ap, sym, arith}
use Rattle.std.specs.Prelude.{codes}
use Rattle.std.proofs.lemmas.Fmt.{decimal_digit}
use Rattle.history_model.specs.declared.phase.Phase.TheVariants.{Ended}
use Rattle.history_model.specs.declared.phase.EndKind.TheVariants.{Release}
use Rattle.cold_store.specs.Exports.{stub_text}
use Rattle.line_text.specs.Lines.{field, head_text}
use Rattle.cold_store.proofs.line.push_stub.Goals as goal

zero_is : decimal 0 ≡ 48 ∷ []
zero_is = decimal_digit 0 (omega arith)

one_is : decimal 1 ≡ 49 ∷ []
one_is = decimal_digit 1 (omega arith)

-- the fields behind the head, by the digits 0 and 1
abbrev fields_of : List ℕ → List ℕ → List ℕ
fields_of z o =
    field z ++ (field z ++ (field z ++ (field o
    ++ ((field (z ++ (codes "." ++ (z ++ (codes "." ++ o)))) ++ []) ++ (field (codes "p" ++ z) ++ (field z ++ field (codes "-")))))))

stub_is : (row generation : ℕ) → stub_text row generation
    ≡ head_text row generation (Ended Release) ++ (fields_of (48 ∷ []) (49 ∷ []) ++ 10 ∷ [])
stub_is row generation =
    append-nil ((head_text row generation (Ended Release) ++ fields_of (decimal 0) (decimal 1)) ++ 10 ∷ [])
    ∙ (append_assoc (head_text row generation (Ended Release)) (fields_of (decimal 0) (decimal 1)) (10 ∷ [])
    ∙ (λ j. head_text row generation (Ended Release) ++ (fields_of (zero_is j) (one_is j) ++ 10 ∷ [])))

pub returns : goal.returns
returns c =
    c.in_ok-extend_from_slice.ensures.items
    ∙ (ap (λ t. t ++ (fields_of (48 ∷ []) (49 ∷ []) ++ 10 ∷ [])) c.in_ok-push_head.ensures
    ∙ (append_assoc c.args.text.now.items (head_text c.args.row c.args.generation (Ended Release)) (fields_of (48 ∷ []) (49 ∷ []) ++ 10 ∷ [])
    ∙ ap (λ t. c.args.text.now.items ++ t) (sym (stub_is c.args.row c.args.generation))))
