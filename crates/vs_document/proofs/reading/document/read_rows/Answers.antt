use Rattle.std.proofs.Common.{◌≡◌, ◌<◌, ◌∷◌, [], arith, length, map}
use Rattle.vs_rows.proofs.CallerLemmas.{err_passes}
use Rattle.vs_document.specs.Reading.{IsRefusalOf}
use Rattle.vs_document.proofs.rows.ReadThrough.{passes}
use Rattle.vs_plan.specs.Blocks.{pairs_of}
use Rattle.vs_rows.specs.DocumentRows.{ClaimRow, CostRow, BoundRow, NodesRow, BlockRow, shape_row, tables_rows}
use Rattle.vs_document.proofs.parts.WholeDocument.{all_say, few_shapes, few_trips, tree_of, tree_refused_at, whole_refused}
use Rattle.vs_document.proofs.reading.document.read_rows.Goals as goal

pub returns-clause-found : goal.returns-clause-found
returns-clause-found c =
    let input = c.args.input.now in
    let head = c.in_ok-head.ensures.found in
    let blocks = c.in_ok-blocks.ensures.found in
    let tables = c.in_ok-tables.ensures.found in
    let n : c.len-count.result ≡ length c.in_ok-tables.tables.items =
    omega (arith, c.len-count.ensures, c.in_ok-tables.tables.ok.0) in
    let tree = tree_of input c.in_ok-tables.tree_from _ _ c.in_ok-shape.end c.in_ok-shape.shape.items n
    c.in_ok-shape.ensures.found in
    record {
      has_text = record {
        cost = head.cost;
        bound = head.bound;
        no_cost = head.no_cost;
        nodes = head.nodes;
        blocks = blocks.of_instance;
        no_blocks = blocks.no_blocks;
        few_tables = tables.number;
        fits = tables.fits;
        tree = tree.tree;
        shapes = tree.parts;
      };
      rows_say = all_say input c.in_ok-blocks.tables_from c.in_ok-tables.tree_from c.in_ok-shape.end
          (ClaimRow c.in_ok-head.head.claim ∷ CostRow c.in_ok-head.head.cost ∷ BoundRow c.in_ok-head.head.bound
          ∷ NodesRow c.in_ok-head.head.nodes ∷ []) (map BlockRow (pairs_of c.in_ok-blocks.blocks.items))
          (tables_rows input.instance c.in_ok-tables.tables.items) (map shape_row c.in_ok-shape.shape.items)
          head.reads.say blocks.reads.say tables.reads.say tree.reads.say c.in_ok-read_end.ensures.found;
    }

pub returns-clause-read_for : goal.returns-clause-read_for
returns-clause-read_for c =
    let input = c.args.input.now in
    let head = c.in_ok-head.ensures.found in
    let blocks = c.in_ok-blocks.ensures.found in
    let tables = c.in_ok-tables.ensures.found in
    let n : c.len-count.result ≡ length c.in_ok-tables.tables.items =
    omega (arith, c.len-count.ensures, c.in_ok-tables.tables.ok.0) in
    let tree = tree_of input c.in_ok-tables.tree_from _ _ c.in_ok-shape.end c.in_ok-shape.shape.items n
    c.in_ok-shape.ensures.found in
    let head_rows = ClaimRow c.in_ok-head.head.claim ∷ CostRow c.in_ok-head.head.cost
    ∷ BoundRow c.in_ok-head.head.bound ∷ NodesRow c.in_ok-head.head.nodes ∷ [] in
    let table_rows = tables_rows input.instance c.in_ok-tables.tables.items in
    let blocks_are = pairs_of c.in_ok-blocks.blocks.items in
    let say = all_say input c.in_ok-blocks.tables_from c.in_ok-tables.tree_from c.in_ok-shape.end head_rows
    (map BlockRow blocks_are) table_rows (map shape_row c.in_ok-shape.shape.items)
    head.reads.say blocks.reads.say tables.reads.say tree.reads.say c.in_ok-read_end.ensures.found in
    record {
      blocks = record {
        of_instance = blocks.of_instance;
        few_trips = few_trips input c.requires head_rows table_rows blocks_are c.in_ok-shape.shape.items say;
      };
      no_blocks = blocks.no_blocks;
      tables = tables.fits;
      few_tables = omega (arith, tables.number);
      tree = tree.tree;
      shapes = tree.parts;
      few_rows = few_shapes input c.requires head_rows table_rows blocks_are c.in_ok-shape.shape.items say;
    }

pub returns-in_err-blocks-clause-refused : goal.returns-in_err-blocks-clause-refused
returns-in_err-blocks-clause-refused c =
    let input = c.args.input.now in
    let some : 0 < length input.rest = omega (arith, c.if-len-eq0.false, c.len.ensures) in
    err_passes _ (IsRefusalOf input) c.from_residual-in_err-blocks.ensures.1
    (whole_refused input _ some (passes input _ c.in_ok-head.ensures.found.reads.lead c.in_err-blocks.ensures.refused))

pub returns-in_err-tables-clause-refused : goal.returns-in_err-tables-clause-refused
returns-in_err-tables-clause-refused c =
    let input = c.args.input.now in
    let some : 0 < length input.rest = omega (arith, c.if-len-eq0.false, c.len.ensures) in
    err_passes _ (IsRefusalOf input) c.from_residual-in_err-tables.ensures.1
    (whole_refused input _ some (passes input _ c.in_ok-head.ensures.found.reads.lead
    (passes input _ c.in_ok-blocks.ensures.found.reads.lead c.in_err-tables.ensures.refused)))

pub returns-in_err-shape-clause-refused : goal.returns-in_err-shape-clause-refused
returns-in_err-shape-clause-refused c =
    let input = c.args.input.now in
    let some : 0 < length input.rest = omega (arith, c.if-len-eq0.false, c.len.ensures) in
    let n : c.len-count.result ≡ length c.in_ok-tables.tables.items =
    omega (arith, c.len-count.ensures, c.in_ok-tables.tables.ok.0) in
    err_passes _ (IsRefusalOf input) c.from_residual-in_err-shape.ensures.1
    (whole_refused input _ some (passes input _ c.in_ok-head.ensures.found.reads.lead
    (passes input _ c.in_ok-blocks.ensures.found.reads.lead
    (passes input _ c.in_ok-tables.ensures.found.reads.lead
    (tree_refused_at input _ _ _ _ n c.in_err-shape.ensures.refused)))))

pub returns-in_err-read_end-clause-refused : goal.returns-in_err-read_end-clause-refused
returns-in_err-read_end-clause-refused c =
    let input = c.args.input.now in
    let some : 0 < length input.rest = omega (arith, c.if-len-eq0.false, c.len.ensures) in
    let n : c.len-count.result ≡ length c.in_ok-tables.tables.items =
    omega (arith, c.len-count.ensures, c.in_ok-tables.tables.ok.0) in
    err_passes _ (IsRefusalOf input) c.from_residual-in_err-read_end.ensures.1
    (whole_refused input _ some (passes input _ c.in_ok-head.ensures.found.reads.lead
    (passes input _ c.in_ok-blocks.ensures.found.reads.lead
    (passes input _ c.in_ok-tables.ensures.found.reads.lead
    (tree_refused_at input _ _ _ _ n
    (passes input _ c.in_ok-shape.ensures.found.reads.lead c.in_err-read_end.ensures.refused))))))
