use Rattle.std.proofs.Common.{◌≡◌, ◌∙◌, ◌+◌, ◌++◌, ◌∷◌, [], List, ℕ, ap, append_assoc, arith}
use Rattle.host_drill.specs.Generator.{request_front, request_middle, request_end}
use Rattle.host_drill.proofs.generator.push_request.Goals as goal

joined : (old front middle end : List ℕ) (a b : ℕ)
    → ((((old ++ front) ++ a ∷ []) ++ middle) ++ b ∷ []) ++ end ≡ old ++ (front ++ a ∷ (middle ++ b ∷ end))
joined old front middle end a b =
    append_assoc (((old ++ front) ++ a ∷ []) ++ middle) (b ∷ []) end
    ∙ (append_assoc ((old ++ front) ++ a ∷ []) middle (b ∷ end)
    ∙ (append_assoc (old ++ front) (a ∷ []) (middle ++ b ∷ end)
    ∙ append_assoc old front (a ∷ (middle ++ b ∷ end))))

pub returns : goal.returns
returns c =
    c.in_ok-extend_from_slice-3.ensures.items
    ∙ (ap (λ (l : List ℕ). l ++ request_end) (c.in_ok-push-2.ensures.items
    ∙ ap (λ (l : List ℕ). l ++ (49 + c.args.leg) ∷ []) (c.in_ok-extend_from_slice-2.ensures.items
    ∙ ap (λ (l : List ℕ). l ++ request_middle) (c.in_ok-push.ensures.items
    ∙ ap (λ (l : List ℕ). l ++ (48 + c.args.leg) ∷ []) c.in_ok-extend_from_slice.ensures.items)))
    ∙ (joined c.args.bytes.now.items request_front request_middle request_end (48 + c.args.leg) (49 + c.args.leg)
    ∙ ap (λ (d : ℕ). c.args.bytes.now.items ++ (request_front ++ (48 + c.args.leg) ∷ (request_middle ++ d ∷ request_end)))
    (let e : 49 + c.args.leg ≡ 48 + (c.args.leg + 1) = omega arith in e)))
