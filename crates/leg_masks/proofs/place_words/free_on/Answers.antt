use Rattle.std.proofs.Common.{bit_and, ap, sym, ◌∙◌, eqb-true, eq-eqb}
use Rattle.leg_masks.proofs.Masks.{clear_from, none_from}
use Rattle.leg_masks.proofs.place_words.free_on.Goals as goal

pub returns : goal.returns
returns c =
    let same = ap (bit_and c.args.word) c.mask_of.ensures.value in
    let ends = c.mask_of.ensures.span in (
      λ t. clear_from c.args.word c.args.span ends.0 ends.1 c.requires.piece (sym same ∙ eqb-true _ 0 t),
      λ h. eq-eqb _ 0 (same ∙ none_from c.args.word c.args.span ends.0 ends.1 c.requires.piece c.ranges.word.fits h),
    )
