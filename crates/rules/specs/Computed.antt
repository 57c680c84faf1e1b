-- `unfolding computed` opens every definition that a closed computation of pack, unpack, lines, check or run goes through.
use Rattle.rules.specs.Base.{numbered, for_each, each}
use Rattle.rules.specs.Container.{weighed, checksum, used_right, block_right, verify_block, verify_blocks, length_right, verify, payload_of}
use Rattle.rules.specs.Container.{payload, verified, block_body, block, blocks_of, block_count, packed, pack, unpack}
use Rattle.rules.specs.Records.{header_right, declaration_right, constructor_right, head_right, alternative_right, operation, head_offset}
use Rattle.rules.specs.Records.{record_right, function_right, constructors_right, functions_right, nothing_left, records_right}
use Rattle.rules.specs.Records.{constructor_of, alternative_of, instruction_of, function_of, program_of, decode}
use Rattle.rules.specs.Declarations.{weight_right, constructor_rule, signature_rule, declarations_right, counted, argument_rule, bound_rule}
use Rattle.rules.specs.Declarations.{bounds_right}
use Rattle.rules.specs.Stacks.{split}
use Rattle.rules.specs.Walk.{sources, arriving_from, arrivals, origin, arriving, states, state_at, along, judged}
use Rattle.rules.specs.Flow.{passing, leaves_right, arrives_right, flow_rule, flow_of, flow_right}
use Rattle.rules.specs.Types.{same, below, types_on, type_rule, types_of, types_right}
use Rattle.rules.specs.Expressions.{variables, replace}
use Rattle.rules.specs.Forms.{constant_only, variable_only, plus_times, added, flat_map, substituted, into_bound, built_form, called_form}
use Rattle.rules.specs.Forms.{form_of, at_most, matches, covers}
use Rattle.rules.specs.Shapes.{split_variable, covered_at, enter, branch_on, shape_from, shape_rule, start_shape, sizes_of, sizes_right}
use Rattle.rules.specs.Check.{checked, verdict_of}
use Rattle.rules.specs.Machine.{current, answered, execute, step, after, returned, result_of}
use Rattle.rules.specs.Prefix.{read_byte, read_bytes, arguments_right, arity_of, values, written}
use Rattle.rules.specs.Run.{heights, fits, cells_taken_by, cells_loaded_by, refusal_at, end_of, step_within_by, continued_by, loaded_by}
use Rattle.rules.specs.Run.{started_by, delivered_in, delivered, run_by}
use Rattle.rules.specs.Lines.{entries_of, entries, table_right, lookup, text_lines, line_right, code, codes, list_of, in_room, lines_of}
use Rattle.rules.specs.Memory.{begun}

unfoldable pub computed : Unit {0}
unfolding numbered for_each each
    weighed checksum used_right block_right verify_block verify_blocks length_right verify payload_of payload verified block_body block
    blocks_of
    block_count packed pack unpack
    header_right declaration_right constructor_right head_right alternative_right operation head_offset record_right function_right
    constructors_right functions_right nothing_left records_right constructor_of alternative_of instruction_of function_of program_of decode
    weight_right constructor_rule signature_rule declarations_right counted argument_rule bound_rule bounds_right
    split sources arriving_from arrivals origin arriving states state_at along judged
    passing leaves_right arrives_right flow_rule flow_of flow_right
    same below types_on type_rule types_of types_right
    variables replace
    constant_only variable_only plus_times added flat_map substituted into_bound built_form called_form form_of at_most matches covers
    split_variable covered_at enter branch_on shape_from shape_rule start_shape sizes_of sizes_right
    checked verdict_of
    current answered execute step after returned result_of
    read_byte read_bytes arguments_right arity_of values written
    heights fits cells_taken_by cells_loaded_by refusal_at end_of step_within_by continued_by loaded_by started_by delivered_in delivered
    run_by begun
    entries_of entries table_right lookup text_lines line_right code codes list_of in_room lines_of
computed = tt
