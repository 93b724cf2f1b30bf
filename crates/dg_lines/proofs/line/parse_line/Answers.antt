-- Each step refuses the line by its own case of the definition, or hands on what the definition says of the rest.
use Rattle.dg_lines.proofs.Common.{option_copied, refl, words_after, spelling, keyword_kinds}
use Rattle.dg_lines.proofs.Cutting.{line_words}
use Rattle.dg_lines.proofs.Keywords.{wanted_of, well_formed, ill_formed}
use Rattle.dg_lines.proofs.Meaning.{line_read}
use Rattle.dg_lines.proofs.line.parse_line.Goals as goal

pub returns-in_default-clause-refused : goal.returns-in_default-clause-refused
returns-in_default-clause-refused c = record {
  keyword = c.cut.result.0.now;
  rest = words_after (option_copied c.cut.result.1);
  cut = line_words _ _ _ _ _ c.cut.ensures.before c.cut.ensures.after refl refl;
  refused = c.in_default.ensures;
}

pub returns-in_default-words_of-clause-refused : goal.returns-in_default-words_of-clause-refused
returns-in_default-words_of-clause-refused c =
    let (spelled, count) = c.in-Some.ensures in
    let k = c.in-Some.keyword in
    record {
      keyword = spelling k;
      rest = words_after (option_copied c.cut.result.1);
      cut = line_words _ _ _ _ _ c.cut.ensures.before c.cut.ensures.after spelled refl;
      refused = ill_formed _ (keyword_kinds k) _ (wanted_of k) (rw count at c.in_default-words_of.ensures);
    }

pub parse_command-requires : goal.parse_command-requires
parse_command-requires c =
    let k = c.in-Some.keyword in
    let words = rw c.in-Some.ensures.1 at c.in-Some-words_of.ensures in
    well_formed (spelling k) (keyword_kinds k) _ (wanted_of k) words.0

pub returns : goal.returns
returns c =
    let k = c.in-Some.keyword in
    let words = rw c.in-Some.ensures.1 at c.in-Some-words_of.ensures in
    let known =
    line_read c.args.names.now c.args.line.now (spelling k) _
    (line_words _ _ _ _ _ c.cut.ensures.before c.cut.ensures.after c.in-Some.ensures.0 words.1)
    c.parse_command.result (well_formed (spelling k) (keyword_kinds k) _ (wanted_of k) words.0) c.parse_command.ensures in
    record { command = known.0; refused = known.1 }
