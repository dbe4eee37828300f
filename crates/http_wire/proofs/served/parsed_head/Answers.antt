use Rattle.std.proofs.Common.{◌≤◌, ◌+◌, ◌||◌, Bool, ℕ, List, length, take, arith, ◌∙◌, ap, subst}
use Rattle.std.specs.Prelude.{◌==◌, slice_range}
use Rattle.std.specs.List.{position_or_len, before_first}
use Rattle.httparse.specs.Spans.{IsRequestOf, IsRequestWithin}
use Rattle.http_wire.specs.HeadLines.{first_key, closes_in, is_last}
use Rattle.http_wire.proofs.RequestHeads.{whole_head}
use Rattle.http_wire.proofs.NamedLemmas.{span_front, span_fits}
use Rattle.http_wire.proofs.ServedLemmas.{head_fault_from, served_from}
use Rattle.http_wire.proofs.served.parsed_head.Goals as goal

pub returns-in-Err-clause-err : goal.returns-in-Err-clause-err
returns-in-Err-clause-err c =
    let at : IsRequestOf c.args.head.now c.args.lines.now c.args.spans =
    c.requires.parsed in
    head_fault_from c.args.head.now at.0 _ c.in-Err.fault at.1.fields
    (record { valid = at.1.reads.0; is = whole_head c.args.head.now at.0 _ c.requires.head c.requires.few at.1.reads }) c.in-Err.ensures.err

pub returns-clause-ok : goal.returns-clause-ok
unfolding is_last
returns-clause-ok c =
    let at : IsRequestOf c.args.head.now c.args.lines.now c.args.spans =
    c.requires.parsed in
    let within : IsRequestWithin c.args.head.now c.args.lines.now c.args.spans =
    c.requires.parsed_within in
    let spans = c.args.spans in
    let few : c.path_length.result ≤ length (slice_range c.args.head.now spans.path.start spans.path.end) =
    subst (λ (t : List ℕ). c.path_length.result ≤ length t) c.of.ensures c.path_length.ensures.within in (
      at.0,
      record {
        served = served_from c.args.head.now at.0 _ c.in-Ok.read at.1.fields
            (record { valid = at.1.reads.0; is = whole_head c.args.head.now at.0 _ c.requires.head c.requires.few at.1.reads }) c.in-Ok.ensures.ok;
        method = at.1.method;
        path = span_front c.args.head.now spans.path.start spans.path.end c.path_length.result within.path.0
            (omega (arith, within.path.1, within.section.len_fits)) few
            ∙ ap (λ (k : ℕ). take k (slice_range c.args.head.now spans.path.start spans.path.end)) c.path_length.ensures.place
            ∙ ap (λ (t : List ℕ). take (position_or_len (λ b. b == 63) t) (slice_range c.args.head.now spans.path.start spans.path.end)) c.of.ensures
            ∙ ap (before_first (λ b. b == 63)) at.1.path;
        key = c.in-Ok.ensures.ok.key ∙ ap first_key at.1.fields;
        last = c.is_last.ensures
            ∙ ap (λ (v : ℕ). (v == 0) || c.in-Ok.read.close || (c.args.number == 65536)) at.1.version
            ∙ ap (λ (b : Bool). (at.0.minor == 0) || b || (c.args.number == 65536)) (c.in-Ok.ensures.ok.close ∙ ap closes_in at.1.fields);
      },
    )

pub overflow_add-path : goal.overflow_add-path
overflow_add-path c =
    let within : IsRequestWithin c.args.head.now c.args.lines.now c.args.spans =
    c.requires.parsed_within in
    let spans = c.args.spans in
    let few : c.path_length.result ≤ length (slice_range c.args.head.now spans.path.start spans.path.end) =
    subst (λ (t : List ℕ). c.path_length.result ≤ length t) c.of.ensures c.path_length.ensures.within in
    let fits : spans.path.start + c.path_length.result ≤ spans.path.end =
    span_fits c.args.head.now spans.path.start spans.path.end c.path_length.result within.path.0 (omega (arith, within.path.1, within.section.len_fits)) few in
    omega (arith, fits, within.path.1, within.section.len_fits)

pub returns-clause-within : goal.returns-clause-within
returns-clause-within c =
    let within : IsRequestWithin c.args.head.now c.args.lines.now c.args.spans =
    c.requires.parsed_within in
    let spans = c.args.spans in
    let few : c.path_length.result ≤ length (slice_range c.args.head.now spans.path.start spans.path.end) =
    subst (λ (t : List ℕ). c.path_length.result ≤ length t) c.of.ensures c.path_length.ensures.within in
    let fits : spans.path.start + c.path_length.result ≤ spans.path.end =
    span_fits c.args.head.now spans.path.start spans.path.end c.path_length.result within.path.0 (omega (arith, within.path.1, within.section.len_fits)) few in
    record {
      method = (within.method.0, omega (arith, within.method.1, within.section.len_fits));
      path = (omega arith, omega (arith, fits, within.path.1, within.section.len_fits));
      key = c.in-Ok.ensures.ok.key_within;
      small = c.in-Ok.ensures.ok.fits;
    }
