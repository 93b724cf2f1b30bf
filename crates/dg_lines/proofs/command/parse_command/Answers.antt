-- A word that is not as its kind wants it refuses the line, and what stands before it is good.
use Rattle.dg_lines.proofs.Common.{[], All-head, degree, dollars, IsWordNumeral}
use Rattle.dg_lines.specs.declared.command.Keyword.TheVariants as of
use Rattle.dg_lines.proofs.Given.{named_alone, none_given}
use Rattle.dg_lines.proofs.Refusing.{unnamed, misnumbered, no_script}
use Rattle.dg_lines.proofs.command.parse_command.Goals as goal

pub returns-in_err-parse_vertex-in-Lend : goal.returns-in_err-parse_vertex-in-Lend
returns-in_err-parse_vertex-in-Lend c =
    let (same, bad) = c.in_err-parse_vertex-in-Lend.ensures in
    rw c.in-Lend.is (unnamed c.args.names.now of.Lend _ (rw c.in-Lend.is at c.requires) _ _
    c.from_residual.ensures.1 same (λ named. bad named.0))

pub returns-in_err-parse_vertex-in-Borrow : goal.returns-in_err-parse_vertex-in-Borrow
returns-in_err-parse_vertex-in-Borrow c =
    let (same, bad) = c.in_err-parse_vertex-in-Borrow.ensures in
    rw c.in-Borrow.is (unnamed c.args.names.now of.Borrow _ (rw c.in-Borrow.is at c.requires) _ _
    c.from_residual-in_err-parse_vertex-in-Borrow.ensures.1 same (λ named. bad named.0))

pub returns-in_err-parse_set-in-Fire : goal.returns-in_err-parse_set-in-Fire
returns-in_err-parse_set-in-Fire c =
    let (same, bad) = c.in_err-parse_set-in-Fire.ensures in
    rw c.in-Fire.is (unnamed c.args.names.now of.Fire _ (rw c.in-Fire.is at c.requires) _ _
    c.from_residual-in_err-parse_set-in-Fire.ensures.1 same (λ named. bad named.0))

pub returns-in_err-parse_script-in-Script : goal.returns-in_err-parse_script-in-Script
returns-in_err-parse_script-in-Script c =
    rw c.in-Script.is (no_script c.args.names.now c.args.first.now (rw c.in-Script.is at c.requires) _ _
    c.from_residual-in_err-parse_script-in-Script.ensures.1
    c.in_err-parse_script-in-Script.ensures)

pub returns-in_err-v-in-Gift : goal.returns-in_err-v-in-Gift
returns-in_err-v-in-Gift c =
    let (same, bad) = c.in_err-v-in-Gift.ensures in
    rw c.in-Gift.is (unnamed c.args.names.now of.Gift _ (rw c.in-Gift.is at c.requires) _ _
    c.from_residual-in_err-v-in-Gift.ensures.1 same (λ named. bad named.0))

pub returns-in_err-parse_dollars-in-Gift : goal.returns-in_err-parse_dollars-in-Gift
returns-in_err-parse_dollars-in-Gift c =
    let (same, bad) = c.in_err-parse_dollars-in-Gift.ensures in
    let names = c.args.names.now in
    rw c.in-Gift.is (misnumbered c.args.names.now of.Gift _ (rw c.in-Gift.is at c.requires) _ _
    c.from_residual-in_err-parse_dollars-in-Gift.ensures.1 same
    (named_alone names c.args.first.now _ c.in_ok-v-in-Gift.ensures, (none_given names, tt))
    (λ all. bad (All-head (IsWordNumeral dollars) c.args.second.now [] all.1.0)))

pub returns-in_err-u-in-Join : goal.returns-in_err-u-in-Join
returns-in_err-u-in-Join c =
    let (same, bad) = c.in_err-u-in-Join.ensures in
    rw c.in-Join.is (unnamed c.args.names.now of.Join _ (rw c.in-Join.is at c.requires) _ _
    c.from_residual-in_err-u-in-Join.ensures.1 same (λ named. bad named.0))

pub returns-in_err-parse_vertex-in-Join : goal.returns-in_err-parse_vertex-in-Join
returns-in_err-parse_vertex-in-Join c =
    let (same, bad) = c.in_err-parse_vertex-in-Join.ensures in
    rw c.in-Join.is (unnamed c.args.names.now of.Join _ (rw c.in-Join.is at c.requires) _ _
    c.from_residual-in_err-parse_vertex-in-Join.ensures.1 same (λ named. bad named.1.0))

pub returns-in_err-parse_degree-in-Rank : goal.returns-in_err-parse_degree-in-Rank
returns-in_err-parse_degree-in-Rank c =
    let (same, bad) = c.in_err-parse_degree-in-Rank.ensures in
    rw c.in-Rank.is (misnumbered c.args.names.now of.Rank _ (rw c.in-Rank.is at c.requires) _ _
    c.from_residual-in_err-parse_degree-in-Rank.ensures.1 same
    (none_given c.args.names.now, tt) (λ all. bad (All-head (IsWordNumeral degree) c.args.first.now [] all.0)))
