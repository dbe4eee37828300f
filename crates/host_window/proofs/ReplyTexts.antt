-- The texts of listed replies.
use Rattle.std.proofs.Common.{◌≡◌, ◌≤◌, ◌<◌, ◌+◌, ◌++◌, ◌∙◌, ℕ, zero, suc, List, [], ◌∷◌, length, slice_index_or, refl, ap, sym, arith}
use Rattle.std.specs.List.{All}
use Rattle.std.proofs.lemmas.List.{length-append}
use Rattle.host_window.specs.Listed.{no_more, reply_text, text_at}
use Rattle.host_window.specs.declared.listed.Reply.{Reply}

pub there : (replies : List Reply) (number : ℕ) (reply : Reply) → number < length replies → reply ≡ slice_index_or replies number reply
    → text_at replies number ≡ reply_text reply
there [] number reply few is = absurd (omega (arith, few))
there (one ∷ replies) zero reply few is = ap reply_text (sym is)
there (one ∷ replies) (suc number) reply few is = there replies number reply (omega (arith, few)) is

pub gone : (replies : List Reply) (number : ℕ) → length replies ≤ number → text_at replies number ≡ no_more
gone [] number all = refl
gone (one ∷ replies) zero all = absurd (omega (arith, all))
gone (one ∷ replies) (suc number) all = gone replies number (omega (arith, all))

pub some_text : (replies : List Reply) (number : ℕ) → All (λ (r : Reply). 0 < length r.head.items) replies → 0 < length (text_at replies number)
some_text [] number all = let size : length no_more ≡ 55 = refl in omega (arith, size)
some_text (one ∷ replies) zero all =
    let first : 0 < length one.head.items = all 0 one (omega arith) in
    let size = length-append one.head.items one.body.items in
    omega (arith, first, size)
some_text (one ∷ replies) (suc number) all =
    some_text replies number (λ k d few. all (suc k) d (omega (arith, few)))
