use Rattle.std.proofs.Common.{◌≡◌, ◌∙◌, ℕ, ◌++◌, ◌∷◌, [], ◌<◌, List, length, sym, ap, subst, arith}
use Rattle.std.proofs.lemmas.List.{length_push}
use Rattle.trip_builder.specs.declared.board.Useful.{Useful}
use Rattle.trip_builder.specs.declared.boards.Head.{Head}
use Rattle.trip_builder.specs.declared.ranks.FirstTwo.{FirstTwo}
use Rattle.trip_builder.specs.Boards.{AreHeads, boards_at}
use Rattle.trip_builder.proofs.Collecting.{heads_kept, heads_rests, heads_more, numbers_more, head_new, boards_more}
use Rattle.trip_builder.proofs.boards.Boards.keep.Goals as goal
use Rattle.trip_builder.proofs.boards.Boards.keep.Goals.{In_ok-push}

pub invariant_of-self-in_err-extend_from_slice-2 : goal.invariant_of-self-in_err-extend_from_slice-2
invariant_of-self-in_err-extend_from_slice-2 c =
    let i = c.self.inside in
    subst (λ (l : List FirstTwo). AreHeads i.heads.items c.extend_from_slice.new.self.items l i.numbers.items) (sym c.in_err-extend_from_slice-2.ensures.items)
    (subst (λ (l : List Useful). AreHeads i.heads.items l i.rests.items i.numbers.items) (sym c.in_ok-extend_from_slice.ensures.items)
    (heads_kept i.heads.items i.useful.items c.args.useful.now i.rests.items i.numbers.items c.self.invariant))

pub invariant_of-self-in_err-push : goal.invariant_of-self-in_err-push
invariant_of-self-in_err-push c =
    let i = c.self.inside in
    let board = c.args.useful.now in
    let own = c.as_slice.result.now in
    let heads_is : c.push.new.self.items ≡ i.heads.items = c.in_err-push.ensures.items in
    subst (λ (l : List Head). AreHeads l c.extend_from_slice.new.self.items c.extend_from_slice-2.new.self.items i.numbers.items) (sym heads_is)
    (subst (λ (l : List FirstTwo). AreHeads i.heads.items c.extend_from_slice.new.self.items l i.numbers.items) (sym c.in_ok-extend_from_slice-2.ensures.items)
    (subst (λ (l : List Useful). AreHeads i.heads.items l (i.rests.items ++ own) i.numbers.items) (sym c.in_ok-extend_from_slice.ensures.items)
    (heads_rests i.heads.items (i.useful.items ++ board) i.rests.items own i.numbers.items (heads_kept i.heads.items i.useful.items board i.rests.items i.numbers.items c.self.invariant))))

-- with the new head, whose board and hints are there
with_head : (c : In_ok-push) → AreHeads c.push.new.self.items c.extend_from_slice.new.self.items c.extend_from_slice-2.new.self.items c.self.inside.numbers.items
with_head c =
    let i = c.self.inside in
    let board = c.args.useful.now in
    let hints = c.args.hints.now in
    let own = hints.rests.items in
    let useful_is : c.extend_from_slice.new.self.items ≡ i.useful.items ++ board = c.in_ok-extend_from_slice.ensures.items in
    let rests_is : c.extend_from_slice-2.new.self.items ≡ i.rests.items ++ own = c.in_ok-extend_from_slice-2.ensures.items ∙ ap (λ (l : List FirstTwo). i.rests.items ++ l) c.as_slice.ensures.value in
    let begin : c.len-begin.result ≡ length i.useful.items = let ok = i.useful.ok in let is = c.len-begin.ensures in omega (arith, ok, is) in
    let before : c.len-before.result ≡ length i.rests.items = let ok = i.rests.ok in let is = c.len-before.ensures in omega (arith, ok, is) in
    let end : c.len.result ≡ length (i.useful.items ++ board) =
    let ok = c.extend_from_slice.new.self.ok in let is = c.len.ensures in let size = ap (λ (l : List Useful). length l) useful_is in omega (arith, ok, is, size) in
    let h : Head = record { begin = c.len-begin.result; end = c.len.result; hints = c.len-before.result; parts = hints.parts; last = hints.last } in
    subst (λ (l : List Head). AreHeads l c.extend_from_slice.new.self.items c.extend_from_slice-2.new.self.items i.numbers.items) (sym c.in_ok-push.ensures.items)
    (subst (λ (l : List FirstTwo). AreHeads (i.heads.items ++ h ∷ []) c.extend_from_slice.new.self.items l i.numbers.items) (sym rests_is)
    (subst (λ (l : List Useful). AreHeads (i.heads.items ++ h ∷ []) l (i.rests.items ++ own) i.numbers.items) (sym useful_is)
    (heads_more i.heads.items (i.useful.items ++ board) (i.rests.items ++ own) i.numbers.items h (head_new i.useful.items board i.rests.items own h begin end before c.requires.rises c.requires.hints)
    (heads_rests i.heads.items (i.useful.items ++ board) i.rests.items own i.numbers.items (heads_kept i.heads.items i.useful.items board i.rests.items i.numbers.items c.self.invariant)))))

pub invariant_of-self-in_err-push-2 : goal.invariant_of-self-in_err-push-2
invariant_of-self-in_err-push-2 c =
    subst (λ (l : List ℕ). AreHeads c.push.new.self.items c.extend_from_slice.new.self.items c.extend_from_slice-2.new.self.items l) (sym c.in_err-push-2.ensures.items) (with_head (goal.at.invariant_of-self-in_err-push-2 c).In_ok-push)

pub invariant_of-self-2 : goal.invariant_of-self-2
invariant_of-self-2 c =
    let i = c.self.inside in
    let number = c.len-number.result in
    let size = ap (λ (l : List Head). length l) c.in_ok-push.ensures.items in
    let more = length_push i.heads.items (record { begin = c.len-begin.result; end = c.len.result; hints = c.len-before.result; parts = c.args.hints.now.parts; last = c.args.hints.now.last }) in
    let fits : number < length c.push.new.self.items = let ok = i.heads.ok in let is = c.len-number.ensures in omega (arith, ok, is, size, more) in
    subst (λ (l : List ℕ). AreHeads c.push.new.self.items c.extend_from_slice.new.self.items c.extend_from_slice-2.new.self.items l) (sym c.in_ok-push-2.ensures.items)
    (numbers_more c.push.new.self.items c.extend_from_slice.new.self.items c.extend_from_slice-2.new.self.items i.numbers.items number fits (with_head (goal.at.invariant_of-self-2 c).In_ok-push))

pub returns : goal.returns
returns c =
    let i = c.self.inside in
    let board = c.args.useful.now in
    let number = c.len-number.result in
    let useful_is : c.extend_from_slice.new.self.items ≡ i.useful.items ++ board = c.in_ok-extend_from_slice.ensures.items in
    let begin : c.len-begin.result ≡ length i.useful.items = let ok = i.useful.ok in let is = c.len-begin.ensures in omega (arith, ok, is) in
    let end : c.len.result ≡ length (i.useful.items ++ board) =
    let ok = c.extend_from_slice.new.self.ok in let is = c.len.ensures in let size = ap (λ (l : List Useful). length l) useful_is in omega (arith, ok, is, size) in
    let fits : number ≡ length i.heads.items = let ok = i.heads.ok in let is = c.len-number.ensures in omega (arith, ok, is) in
    let h : Head = record { begin = c.len-begin.result; end = c.len.result; hints = c.len-before.result; parts = c.args.hints.now.parts; last = c.args.hints.now.last } in
    ap (λ (l : List Head). boards_at l c.extend_from_slice.new.self.items c.push-2.new.self.items) c.in_ok-push.ensures.items
    ∙ (ap (λ (l : List Useful). boards_at (i.heads.items ++ h ∷ []) l c.push-2.new.self.items) useful_is
    ∙ (ap (λ (l : List ℕ). boards_at (i.heads.items ++ h ∷ []) (i.useful.items ++ board) l) c.in_ok-push-2.ensures.items
    ∙ (boards_more i.heads.items i.useful.items board i.rests.items i.numbers.items number h c.self.invariant fits begin end ∙ ap (λ (l : List (List Useful)). l ++ board ∷ []) c.self.view_is)))
