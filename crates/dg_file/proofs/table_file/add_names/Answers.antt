-- The names so far are the first of the texts.
use Rattle.dg_file.proofs.Common.{◌≡◌, ap, false, not, ◌∙◌, arith, rules, iff_false, IsName, names_contain, AreNames-nil, AreNames-added}
use Rattle.dg_file.proofs.NamesRead.{text_at, names-added, names-all, names-few, name-fault, twice-fault, stood}
use Rattle.dg_file.proofs.table_file.add_names.Goals as goal

pub loop-v-init : goal.loop-v-init
loop-v-init c = record {
  so_far = c.requires.empty;
  are = rw c.requires.empty AreNames-nil;
}

pub insert-requires-clause-name : goal.insert-requires-clause-name
insert-requires-clause-name c = rw c.as_bytes.ensures.value at (c.is_name.ensures.0 c.if-not-is_name.false)

pub insert-requires-clause-room : goal.insert-requires-clause-room
insert-requires-clause-room c =
    names-few c.args.vertices.now c.loop-v.v c.loop-v.names c.loop-v-test.true
    c.loop-v.invariant.so_far (omega arith)

pub loop-v-preserved : goal.loop-v-preserved
loop-v-preserved c =
    let text = text_at c.args.vertices.now c.loop-v.v in
    let new : names_contain c.loop-v.names text ≡ false =
    stood c.in_ok-insert.field-0 c.loop-v.names text c.in_ok-insert.ensures.added ∙ ap not c.if-not-branch.false in
    let is : IsName text = rw c.as_bytes.ensures.value at (c.is_name.ensures.0 c.if-not-is_name.false) in
    record {
      so_far = c.in_ok-insert.ensures.names
          ∙ names-added c.args.vertices.now c.loop-v.v c.loop-v.names c.loop-v-test.true c.loop-v.invariant.so_far new;
      are = rw c.in_ok-insert.ensures.names (AreNames-added c.loop-v.names text c.loop-v.invariant.are is);
    }

pub returns-clause-names : goal.returns-clause-names
returns-clause-names c =
    names-all c.args.vertices.now c.loop-v.v c.loop-v.names c.loop-v-test.false c.loop-v.invariant.so_far

pub returns-clause-are_names : goal.returns-clause-are_names
returns-clause-are_names c = c.loop-v.invariant.are

pub returns-then-not-is_name-clause-refused : goal.returns-then-not-is_name-clause-refused
returns-then-not-is_name-clause-refused c =
    name-fault c.args.vertices.now c.loop-v.v c.loop-v.names c.loop-v-test.true
    c.loop-v.invariant.so_far (search rules) c.loop-v.invariant.are
    (rw c.as_bytes.ensures.value at (iff_false c.is_name.ensures c.if-not-is_name.true))

pub returns-then-not-branch-clause-refused : goal.returns-then-not-branch-clause-refused
returns-then-not-branch-clause-refused c =
    let text = text_at c.args.vertices.now c.loop-v.v in
    twice-fault c.args.vertices.now c.loop-v.v c.loop-v.names c.loop-v-test.true
    c.loop-v.invariant.so_far (search rules) c.loop-v.invariant.are
    (rw c.as_bytes.ensures.value at (c.is_name.ensures.0 c.if-not-is_name.false))
    (stood c.in_ok-insert.field-0 c.loop-v.names text c.in_ok-insert.ensures.added ∙ ap not c.if-not-branch.true)
