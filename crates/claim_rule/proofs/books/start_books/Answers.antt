use Rattle.std.proofs.Common.{◌≡◌, ℕ, ◌+◌, ◌*◌, List, [], length, replicate, sym, ◌∙◌, subst, arith}
use Rattle.std.proofs.lemmas.Result.{IfOk-weaker}
use Rattle.claim_rule.specs.Openings.{OpensWith}
use Rattle.claim_rule.proofs.Begins.{empty_opens}
use Rattle.claim_rule.proofs.books.start_books.Goals as goal

-- the words that are handed over are zeros, and open with nothing
zeros_open : (legs words : List ℕ) (rows n : ℕ) → words ≡ replicate n 0 → n ≡ 2 * length legs + 64 * rows
    → OpensWith legs rows words []
zeros_open legs words rows n is count =
    subst (λ (ws : List ℕ). OpensWith legs rows ws []) (sym is) (empty_opens legs rows n count)

pub adopt_books-requires-clause-opening : goal.adopt_books-requires-clause-opening
adopt_books-requires-clause-opening c =
    let is = c.as_slice.ensures.value ∙ c.in_ok-words.ensures.items_if_clones_equal (λ x e. e) in
    let count : c.number_of_row-count.result ≡ 2 * length c.args.legs.now + 64 * c.args.rows =
    omega (arith, c.number_of_row-count.ensures) in
    ([], zeros_open c.args.legs.now c.as_slice.result.now c.args.rows c.number_of_row-count.result is count)

pub returns-clause-layout : goal.returns-clause-layout
returns-clause-layout c =
    let is = c.as_slice.ensures.value ∙ c.in_ok-words.ensures.items_if_clones_equal (λ x e. e) in
    let count : c.number_of_row-count.result ≡ 2 * length c.args.legs.now + 64 * c.args.rows =
    omega (arith, c.number_of_row-count.ensures) in
    let words = c.as_slice.result.now in
    IfOk-weaker c.adopt_books.result _ _
    (λ t all. all [] (zeros_open c.args.legs.now words c.args.rows c.number_of_row-count.result is count))
    c.adopt_books.ensures.layout
