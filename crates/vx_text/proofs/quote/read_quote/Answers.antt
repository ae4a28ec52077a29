use Rattle.std.proofs.Common.{◌≡◌, sym, ◌∙◌, ap, option_map}
use Rattle.vx_text.specs.declared.quoted.Text.{Text}
use Rattle.vx_text.specs.Quote.{quote_text}
use Rattle.vx_text.proofs.Canonical.{spelled_read, told_apart, bytes_of}
use Rattle.vx_text.proofs.quote.read_quote.Goals as goal

pub returns-in_default-clause-read : goal.returns-in_default-clause-read
returns-in_default-clause-read c = λ bytes are e. absurd (c.in_default.not-Some _ (spelled_read c.args.text.now bytes _ are e c.in_ok-read.ensures.text))

pub returns-then-eq-clause-read : goal.returns-then-eq-clause-read
returns-then-eq-clause-read c = λ bytes are e.
    let read = spelled_read c.args.text.now bytes _ are e c.in_ok-read.ensures.text in
    ap (option_map (λ (t : Text). t.bytes)) (sym c.in-Some.is ∙ read)

pub returns-else-eq-clause-read : goal.returns-else-eq-clause-read
returns-else-eq-clause-read c = λ bytes are e.
    let read = spelled_read c.args.text.now bytes _ are e c.in_ok-read.ensures.text in
    let whole : c.in-Some.read.bytes ≡ bytes = bytes_of (sym c.in-Some.is ∙ read) in
    let again : c.as_slice-2.result.now ≡ c.args.text.now = c.as_slice-2.ensures ∙ c.in_ok-again.ensures ∙ ap quote_text (c.as_slice.ensures ∙ whole) ∙ sym e in
    absurd (told_apart c.as_slice-2.result.now c.args.text.now c.eq.result c.eq.ensures c.if-eq.false again)
