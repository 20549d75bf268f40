-- The form of a table of cases: what is asked of the rules, and what they are to say.
-- Assumes nothing.
use Rattle.std.specs.Prelude.{ℕ, List, map, ◌≡◌, ℤ, length, replicate}
use Rattle.std.proofs.lemmas.List.Edits.{sets}
use Rattle.schedule.specs.Bounded
use Rattle.schedule.specs.Fields
use Rattle.schedule.specs.Rule
use Rattle.schedule.specs.Model
use Rattle.schedule.specs.ModelBytes
use Rattle.schedule.specs.Timing
use Rattle.schedule.specs.Choice
use Rattle.schedule.specs.Plan
use Rattle.schedule.specs.Machine
use Rattle.schedule.specs.Checks
use Rattle.schedule.specs.Opened
use Rattle.schedule.specs.Answers
use Rattle.schedule.specs.Report
use Rattle.schedule.specs.Streams
use Rattle.schedule.specs.Exchange
use Rattle.schedule.specs.Lines
use Rattle.schedule.specs.Bounded.{table}
use Rattle.schedule.specs.Model.{model}
use Rattle.schedule.specs.ModelBytes.{model_bytes}
use Rattle.schedule.specs.Choice.{choice}
use Rattle.schedule.specs.Plan.{plan}
use Rattle.schedule.specs.Checks.{efe}
use Rattle.schedule.specs.Answers.{Answer, accepted, refused, Figures, Written}
use Rattle.schedule.specs.Answers.{plain_verdict, strict_verdict, machine_plan, length_needed, run_answer, run_buffer}
use Rattle.schedule.specs.Report.{report_answer, report_rows}
use Rattle.schedule.specs.Exchange.{Part, pair_part, pair_bytes, file_answer, file_bytes}
use Rattle.schedule.specs.Lines.{run_room}

-- bytes with others in place from a position on
abbrev pub patch : ℕ → List ℕ → List ℕ → List ℕ
patch at new s = sets s at new

-- a verdict as the paper writes it: "accepted 5 8 6", and "25 2 1" for a refusal
abbrev pub accepts : ℕ → ℕ → ℕ → Answer Figures
accepts u c h = accepted (record { usage = u; capacity = c; makespan = h })

abbrev pub refuses : {F : Type 0} → ℕ → ℕ → ℕ → Answer F
refuses number a b = refused (record { number = number; A = a; B = b })

-- What is asked: the record of one round of the model that some bytes say; both checks of a model's and a plan's bytes, or the
-- plan's efes; the run of a model's and a choice's bytes, or the machine's words, starts or ends, or the bytes that it writes
-- into a buffer of the plan's length; the report of a model's and a choice's bytes with a lent list; which of two wrapped
-- records stands; which record of a file is chosen.
pub data Question : Type 0 where
  unrolls : List ℕ → Question
  check : List ℕ → List ℕ → Question
  efes : List ℕ → List ℕ → Question
  run : List ℕ → List ℕ → Question
  words : List ℕ → List ℕ → Question
  starts : List ℕ → List ℕ → Question
  ends : List ℕ → List ℕ → Question
  writes : List ℕ → List ℕ → Question
  report : List ℕ → List ℕ → List ℤ → Question
  pair : List ℕ → List ℕ → Question
  file : List ℕ → Question

-- What is said: the plain and the strict verdict, the run's, numbers in order, the report's answer and the list after it, or
-- the part of a wrapped record and the bytes handed back.
pub data Saying : Type 0 where
  verdicts : Answer Figures → Answer Figures → Saying
  verdict : Answer Figures → Saying
  numbers : List ℕ → Saying
  reports : Answer Written → List ℤ → Saying
  parts : Answer Part → List ℕ → Saying

-- the run's verdict without the plan's length, as gridrun prints it
unfoldable pub printed : Answer Written → Answer Figures
printed (accepted w) = accepted w.figures
printed (refused x) = refused x

-- what the rules say
unfoldable pub said : Question → Saying
said (unrolls s) = numbers (model_bytes (model s))
said (check s r) = verdicts (plain_verdict s r) (strict_verdict s r)
said (efes s r) = numbers (table (model s).activities (efe (model s) (plan r)))
said (run s q) = verdict (printed (run_answer s q run_room))
said (words s q) = numbers (table (model s).horizon (machine_plan (model s) (choice q)).word)
said (starts s q) = numbers (table (model s).activities (machine_plan (model s) (choice q)).start)
said (ends s q) = numbers (table (model s).activities (machine_plan (model s) (choice q)).end)
said (writes s q) = numbers (run_buffer s q (replicate (length_needed (model s)) 255))
said (report s q list) = reports (report_answer s q (length list)) (report_rows s q list)
said (pair x y) = parts (pair_part x y) (pair_bytes x y)
said (file f) = parts (file_answer f) (file_bytes f)

pub record Case : Type 0 where
  pub asked : Question
  pub expected : Saying

-- the rules say what is expected, in every case of a table
abbrev pub Right : List Case → Type 0
Right cases = map (λ c. said c.asked) cases ≡ map (λ c. c.expected) cases

-- every definition of the rules, of the lines and of this file, to be unfolded together where a table is computed
unfoldable pub every : Unit {0}
unfolding Bounded.all Bounded.count Bounded.total Bounded.greatest Bounded.least Bounded.lowest Bounded.first
    Bounded.table Bounded.member Bounded.chain Bounded.bit Bounded.with_bit Bounded.word_of
    Fields.field Fields.bytes
    Rule.break Rule.first_break
    Model.page Model.unrolled Model.model Model.model_form ModelBytes.plain_version
    ModelBytes.round_bytes ModelBytes.model_bytes
    Timing.in_time Choice.choice Choice.choice_form Plan.plan Plan.plan_bytes Plan.plan_form
    Opened.form_rules Opened.check_rules
    Machine.ended_by Machine.ready Machine.before Machine.insert Machine.in_rank Machine.walk Machine.walked Machine.word_at
    Machine.initial Machine.step Machine.state_at Machine.machine_word Machine.machine_start Machine.machine_end Machine.machine_owes
    Checks.count_of Checks.efe_from Checks.efes Checks.efe Checks.waits Checks.cores_of Checks.contends Checks.window
    Checks.plain_rules Checks.strict_rules
    Answers.answer Answers.figures Answers.plain_checks Answers.strict_checks Answers.plain_verdict Answers.strict_verdict
    Answers.machine_plan Answers.owed_rule Answers.run_rules Answers.length_needed Answers.run_checks Answers.concluded
    Answers.outcome Answers.run_outcome Answers.answer_of Answers.run_answer Answers.buffer_after Answers.run_buffer
    Report.report_row Report.rows_rule Report.report_rules Report.report_answer Report.rows_after Report.report_rows
    Streams.taken Streams.splits Streams.first_record Streams.second_record Streams.view_refusal Streams.view_word
    Exchange.flag_rule Exchange.wrapper_form Exchange.wrapper_rule Exchange.series_rule Exchange.same Exchange.copy_rule
    Exchange.outranks Exchange.along Exchange.standing Exchange.handed_back Exchange.placed Exchange.pair_answer Exchange.pair_bytes
    Exchange.pair_part Exchange.record_end Exchange.cut_into Exchange.records_of Exchange.file_answer Exchange.file_bytes
    Lines.digits Lines.decimal Lines.hex_digit Lines.hex Lines.three Lines.shown Lines.check_lines Lines.tick_line
    Lines.run_lines Lines.signed Lines.row_text Lines.late_line Lines.late_lines Lines.gridcheck Lines.gridrun Lines.gridlate
    printed said
every = tt
