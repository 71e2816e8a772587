-- Every theorem of the project with its proof, made from the statements of specs/ by `tests/theorems --write`. A proof that is gone, or is
-- one of anything else, is refused here.
use Rattle.words as words
use Rattle.refusals as refusals
use Rattle.table as table
use Rattle.effects as effects
use Rattle.forms as forms
use Rattle.hexadecimal as hexadecimal
use Rattle.lines as lines
use Rattle.listing as listing
use Rattle.r8_core as r8_core
use Rattle.dump as dump
use Rattle.text as text
use Rattle.layout as layout
use Rattle.reference as reference
use Rattle.plays as plays
use Rattle.machine as machine
use Rattle.replay as replay
use Rattle.script as script
use Rattle.trace as trace
use Rattle.r8 as r8
use Rattle.output as output
use Rattle.printed as printed

-- words
pub words-and_bits : words.specs.Theorems.AndBits
words-and_bits = words.proofs.Theorems.and_bits

pub words-or_bits : words.specs.Theorems.OrBits
words-or_bits = words.proofs.Theorems.or_bits

pub words-xor_bits : words.specs.Theorems.XorBits
words-xor_bits = words.proofs.Theorems.xor_bits

pub words-memory_exactly : words.specs.Theorems.MemoryExactly
words-memory_exactly = words.proofs.Theorems.memory_exactly

-- refusals
pub refusals-length_exactly : refusals.specs.Theorems.LengthExactly
refusals-length_exactly = refusals.proofs.First.length_exactly

pub refusals-first_exactly : refusals.specs.Theorems.FirstExactly
refusals-first_exactly = refusals.proofs.First.first_exactly

pub refusals-numbers_apart : refusals.specs.Theorems.NumbersApart
refusals-numbers_apart = refusals.proofs.Apart.numbers_apart

-- table
pub table-table_entries : table.specs.Theorems.TableEntries
table-table_entries = table.proofs.Theorems.table_entries

pub table-undefined_exactly : table.specs.Theorems.UndefinedExactly
table-undefined_exactly = table.proofs.Theorems.undefined_exactly

pub table-undefined_count : table.specs.Theorems.UndefinedCount
table-undefined_count = table.proofs.Theorems.undefined_count

-- effects
pub effects-effect_parts : effects.specs.Theorems.EffectParts
effects-effect_parts = effects.proofs.Theorems.effect_parts

pub effects-hidden_parts : effects.specs.Theorems.HiddenParts
effects-hidden_parts = effects.proofs.Theorems.hidden_parts

pub effects-cycles_agree : effects.specs.Theorems.CyclesAgree
effects-cycles_agree = effects.proofs.Theorems.cycles_agree

pub effects-past_the_last : effects.specs.Theorems.PastTheLast
effects-past_the_last = effects.proofs.Theorems.past_the_last

pub effects-access_made : effects.specs.Theorems.AccessMade
effects-access_made = effects.proofs.Theorems.access_made

pub effects-stack_exactly : effects.specs.Theorems.StackExactly
effects-stack_exactly = effects.proofs.Theorems.stack_exactly

-- forms
pub forms-form_means : forms.specs.Theorems.FormMeans
forms-form_means = forms.proofs.Means.form_means

pub forms-form_word_form : forms.specs.Theorems.FormWordForm
forms-form_word_form = forms.proofs.Theorems.form_word_form

pub forms-word_form_word : forms.specs.Theorems.WordFormWord
forms-word_form_word = forms.proofs.Theorems.word_form_word

pub forms-unchanged : forms.specs.Theorems.Unchanged
forms-unchanged = forms.proofs.Theorems.unchanged

pub forms-refused_word : forms.specs.Theorems.RefusedWord
forms-refused_word = forms.proofs.Theorems.refused_word

pub forms-refused_form : forms.specs.Theorems.RefusedForm
forms-refused_form = forms.proofs.Theorems.refused_form

pub forms-forms_read : forms.specs.Theorems.FormsRead
forms-forms_read = forms.proofs.Read.forms_read

-- hexadecimal
pub hexadecimal-digits_kept : hexadecimal.specs.Former.DigitsKept
hexadecimal-digits_kept = hexadecimal.proofs.Former.digits_kept

pub hexadecimal-digit_exactly : hexadecimal.specs.Theorems.DigitExactly
hexadecimal-digit_exactly = hexadecimal.proofs.Theorems.digit_exactly

pub hexadecimal-digit_written : hexadecimal.specs.Theorems.DigitWritten
hexadecimal-digit_written = hexadecimal.proofs.Written.digit_written

pub hexadecimal-digit_read_back : hexadecimal.specs.Theorems.DigitReadBack
hexadecimal-digit_read_back = hexadecimal.proofs.Theorems.digit_read_back

-- lines
pub lines-lines_joined : lines.specs.Theorems.LinesJoined
lines-lines_joined = lines.proofs.Theorems.lines_joined

pub lines-lines_start : lines.specs.Theorems.LinesStart
lines-lines_start = lines.proofs.Theorems.lines_start

pub lines-number_exactly : lines.specs.Theorems.NumberExactly
lines-number_exactly = lines.proofs.Grammar.number_exactly

pub lines-entry_exactly : lines.specs.Theorems.EntryExactly
lines-entry_exactly = lines.proofs.Grammar.entry_exactly

pub lines-blank_exactly : lines.specs.Theorems.BlankExactly
lines-blank_exactly = lines.proofs.Grammar.blank_exactly

pub lines-lines_apart : lines.specs.Theorems.LinesApart
lines-lines_apart = lines.proofs.Said.lines_apart

pub lines-said_exactly : lines.specs.Theorems.SaidExactly
lines-said_exactly = lines.proofs.Said.said_exactly

pub lines-find_first : lines.specs.Theorems.FindFirst
lines-find_first = lines.proofs.Theorems.find_first

pub lines-comment_exactly : lines.specs.Theorems.CommentExactly
lines-comment_exactly = lines.proofs.Theorems.comment_exactly

pub lines-comment_bytes : lines.specs.Theorems.CommentBytes
lines-comment_bytes = lines.proofs.CommentBytes.comment_bytes

pub lines-word_read_back : lines.specs.Theorems.WordReadBack
lines-word_read_back = lines.proofs.ReadBack.word_read_back

-- listing
pub listing-numbers : listing.specs.Theorems.Numbers
listing-numbers = listing.proofs.Numbers.numbers

pub listing-refused_exactly : listing.specs.Theorems.RefusedExactly
listing-refused_exactly = listing.proofs.Theorems.refused_exactly

pub listing-refused_unchanged : listing.specs.Theorems.RefusedUnchanged
listing-refused_unchanged = listing.proofs.Theorems.refused_unchanged

pub listing-stored_exactly : listing.specs.Theorems.StoredExactly
listing-stored_exactly = listing.proofs.Theorems.stored_exactly

pub listing-count_exactly : listing.specs.Theorems.CountExactly
listing-count_exactly = listing.proofs.Theorems.count_exactly

pub listing-stored_at_most : listing.specs.Theorems.StoredAtMost
listing-stored_at_most = listing.proofs.Theorems.stored_at_most

pub listing-rising : listing.specs.Theorems.Rising
listing-rising = listing.proofs.Theorems.rising

pub listing-words_stored : listing.specs.Theorems.WordsStored
listing-words_stored = listing.proofs.Theorems.words_stored

pub listing-stored_twice : listing.specs.Theorems.StoredTwice
listing-stored_twice = listing.proofs.Theorems.stored_twice

pub listing-faults_apart : listing.specs.Theorems.FaultsApart
listing-faults_apart = listing.proofs.Apart.faults_apart

-- r8_core
pub r8_core-core_parts : r8_core.specs.Theorems.CoreParts
r8_core-core_parts = r8_core.proofs.Parts.core_parts

pub r8_core-spent_exactly : r8_core.specs.Theorems.SpentExactly
r8_core-spent_exactly = r8_core.proofs.Parts.spent_exactly

pub r8_core-one_instruction : r8_core.specs.Theorems.OneInstruction
r8_core-one_instruction = r8_core.proofs.OneInstruction.one_instruction

pub r8_core-foreign_core : r8_core.specs.Theorems.ForeignCore
r8_core-foreign_core = r8_core.proofs.Foreign.foreign_core

pub r8_core-bench : r8_core.specs.Theorems.Bench
r8_core-bench = r8_core.proofs.Bench.bench

pub r8_core-numbers_exactly : r8_core.specs.TheoremsOfCalls.NumbersExactly
r8_core-numbers_exactly = r8_core.proofs.Refusals.numbers_exactly

pub r8_core-refusals_unchanged : r8_core.specs.TheoremsOfCalls.RefusalsUnchanged
r8_core-refusals_unchanged = r8_core.proofs.Refusals.refusals_unchanged

pub r8_core-run_taken : r8_core.specs.TheoremsOfCalls.RunTaken
r8_core-run_taken = r8_core.proofs.Taken.run_taken

pub r8_core-run_again : r8_core.specs.TheoremsOfCalls.RunAgain
r8_core-run_again = r8_core.proofs.Again.run_again

pub r8_core-run_by_cycles : r8_core.specs.TheoremsOfCalls.RunByCycles
r8_core-run_by_cycles = r8_core.proofs.Taken.run_by_cycles

pub r8_core-cycle_exactly : r8_core.specs.TheoremsOfCalls.CycleExactly
r8_core-cycle_exactly = r8_core.proofs.Taken.cycle_exactly

pub r8_core-step_taken : r8_core.specs.TheoremsOfCalls.StepTaken
r8_core-step_taken = r8_core.proofs.Taken.step_taken

pub r8_core-others_taken : r8_core.specs.TheoremsOfCalls.OthersTaken
r8_core-others_taken = r8_core.proofs.Taken.others_taken

pub r8_core-read_apart : r8_core.specs.TheoremsOfCalls.ReadApart
r8_core-read_apart = r8_core.proofs.Apart.read_apart

pub r8_core-read_exactly : r8_core.specs.TheoremsOfCalls.ReadExactly
r8_core-read_exactly = r8_core.proofs.Apart.read_exactly

-- dump
pub dump-dump_numbers_lem : dump.specs.Theorems.DumpNumbers
dump-dump_numbers_lem = dump.proofs.Refusals.dump_numbers_lem

pub dump-dump_bytes : dump.specs.Theorems.DumpBytes
dump-dump_bytes = dump.proofs.Bytes.dump_bytes

pub dump-loaded_back : dump.specs.Theorems.LoadedBack
dump-loaded_back = dump.proofs.LoadedBack.loaded_back

pub dump-whole_memory : dump.specs.Theorems.WholeMemory
dump-whole_memory = dump.proofs.LoadedBack.whole_memory

pub dump-dump_apart : dump.specs.Theorems.DumpApart
dump-dump_apart = dump.proofs.Apart.dump_apart

pub dump-dump_read : dump.specs.Theorems.DumpRead
dump-dump_read = dump.proofs.Apart.dump_read

-- text
pub text-letters_apart : text.specs.Theorems.LettersApart
text-letters_apart = text.proofs.Apart.letters_apart

pub text-flags_apart : text.specs.Theorems.FlagsApart
text-flags_apart = text.proofs.Apart.flags_apart

pub text-decimal_back : text.specs.Theorems.DecimalBack
text-decimal_back = text.proofs.Digits.decimal_back

pub text-decimal_digits : text.specs.Theorems.DecimalDigits
text-decimal_digits = text.proofs.Digits.decimal_digits

pub text-no_leading_zero : text.specs.Theorems.NoLeadingZero
text-no_leading_zero = text.proofs.Digits.no_leading_zero

pub text-decimal_at_most : text.specs.Theorems.DecimalAtMost
text-decimal_at_most = text.proofs.Digits.decimal_at_most

pub text-as_shown : text.specs.Theorems.AsShown
text-as_shown = text.proofs.Shown.as_shown

-- layout
pub layout-answer_size_lem : layout.specs.Theorems.AnswerSize
layout-answer_size_lem = layout.proofs.Theorems.answer_size_lem

pub layout-answers_apart : layout.specs.Theorems.AnswersApart
layout-answers_apart = layout.proofs.Theorems.answers_apart

pub layout-left_apart : layout.specs.Theorems.LeftApart
layout-left_apart = layout.proofs.Theorems.left_apart

pub layout-places : layout.specs.Theorems.Places
layout-places = layout.proofs.Theorems.places

-- reference
pub reference-cycles_exactly : reference.specs.Cycles.CyclesExactly
reference-cycles_exactly = reference.proofs.Cycles.cycles_exactly

pub reference-forms_exactly : reference.specs.Forms.FormsExactly
reference-forms_exactly = reference.proofs.Forms.forms_exactly

pub reference-instructions_exactly : reference.specs.Instructions.InstructionsExactly
reference-instructions_exactly = reference.proofs.Instructions.instructions_exactly

pub reference-every_word : reference.specs.Instructions.EveryWord
reference-every_word = reference.proofs.Instructions.every_word

pub reference-fresh_exactly : reference.specs.Theorems.FreshExactly
reference-fresh_exactly = reference.proofs.Theorems.fresh_exactly

pub reference-unused_ignored : reference.specs.Theorems.UnusedIgnored
reference-unused_ignored = reference.proofs.Theorems.unused_ignored

-- plays
pub plays-play_exactly : plays.specs.Theorems.PlayExactly
plays-play_exactly = plays.proofs.Plays.play_exactly

pub plays-each_exactly : plays.specs.Theorems.EachExactly
plays-each_exactly = plays.proofs.Plays.each_exactly

pub plays-plays_agree : plays.specs.Theorems.PlaysAgree
plays-plays_agree = plays.proofs.Plays.plays_agree

pub plays-plays_same : plays.specs.Theorems.PlaysSame
plays-plays_same = plays.proofs.Plays.plays_same

pub plays-plays_counted : plays.specs.Theorems.PlaysCounted
plays-plays_counted = plays.proofs.Plays.plays_counted

-- machine
pub machine-contracts_kept : machine.specs.Contracts.ContractsKept
machine-contracts_kept = machine.proofs.Made.contracts_kept

pub machine-nothing_asked : machine.specs.Contracts.NothingAsked
machine-nothing_asked = machine.proofs.Made.nothing_asked

pub machine-every_list : machine.specs.Theorem.EveryList
machine-every_list = machine.proofs.Theorem.every_list

pub machine-every_moment : machine.specs.Theorem.EveryMoment
machine-every_moment = machine.proofs.Theorem.every_moment

pub machine-every_list_made : machine.specs.Theorem.EveryListMade
machine-every_list_made = machine.proofs.Made.every_list_made

-- replay
pub replay-core_told : replay.specs.Theorems.CoreTold
replay-core_told = replay.proofs.Told.core_told

pub replay-call_told : replay.specs.Theorems.CallTold
replay-call_told = replay.proofs.Told.call_told

-- script
pub script-script_played : script.specs.Played.ScriptPlayed
script-script_played = script.proofs.Played.script_played

pub script-run_exactly : script.specs.Said.RunExactly
script-run_exactly = script.proofs.Said.run_exactly

pub script-listing_exactly : script.specs.Said.ListingExactly
script-listing_exactly = script.proofs.Said.listing_exactly

pub script-words_exactly : script.specs.Said.WordsExactly
script-words_exactly = script.proofs.Said.words_exactly

pub script-load_exactly : script.specs.Said.LoadExactly
script-load_exactly = script.proofs.Said.load_exactly

pub script-few_calls : script.specs.Theorems.FewCalls
script-few_calls = script.proofs.Theorems.few_calls

pub script-each_is_call : script.specs.Theorems.EachIsCall
script-each_is_call = script.proofs.Theorems.each_is_call

-- trace
pub trace-rows_of_the_run : trace.specs.Theorems.RowsOfTheRun
trace-rows_of_the_run = trace.proofs.Theorems.rows_of_the_run

pub trace-cycles_add_up : trace.specs.Theorems.CyclesAddUp
trace-cycles_add_up = trace.proofs.Theorems.cycles_add_up

pub trace-room_always : trace.specs.Theorems.RoomAlways
trace-room_always = trace.proofs.Theorems.room_always

-- r8
pub r8-core_back : r8.specs.Theorems.CoreBack
r8-core_back = r8.proofs.Theorems.core_back

pub r8-numbers_back : r8.specs.Theorems.NumbersBack
r8-numbers_back = r8.proofs.Theorems.numbers_back

pub r8-held_on : r8.specs.Theorems.HeldOn
r8-held_on = r8.proofs.Theorems.held_on

pub r8-call_after_call : r8.specs.Theorems.CallAfterCall
r8-call_after_call = r8.proofs.Theorems.call_after_call

pub r8-run_in_pieces : r8.specs.Theorems.RunInPieces
r8-run_in_pieces = r8.proofs.Theorems.run_in_pieces

pub r8-codes_apart : r8.specs.Theorems.CodesApart
r8-codes_apart = r8.proofs.Apart.codes_apart

pub r8-replay_apart : r8.specs.Theorems.ReplayApart
r8-replay_apart = r8.proofs.Apart.replay_apart

pub r8-call_codes : r8.specs.Theorems.CallCodes
r8-call_codes = r8.proofs.Exactly.call_codes

pub r8-form_codes : r8.specs.Theorems.FormCodes
r8-form_codes = r8.proofs.Exactly.form_codes

pub r8-dump_codes : r8.specs.Theorems.DumpCodes
r8-dump_codes = r8.proofs.Dump.dump_codes

pub r8-trace_codes : r8.specs.Theorems.TraceCodes
r8-trace_codes = r8.proofs.Exactly.trace_codes

-- output
pub output-put_whole : output.specs.Theorems.PutWhole
output-put_whole = output.proofs.Stores.put_whole

-- printed
pub printed-lines_of_steps : printed.specs.Theorems.LinesOfSteps
printed-lines_of_steps = printed.proofs.Lines.lines_of_steps

pub printed-text_fits : printed.specs.Theorems.TextFits
printed-text_fits = printed.proofs.Fits.text_fits

pub printed-page_holds : printed.specs.Theorems.PageHolds
printed-page_holds = printed.proofs.Fits.page_holds
