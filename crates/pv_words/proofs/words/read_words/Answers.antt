use Rattle.std.proofs.lemmas.List.{length-map}
use Rattle.std.proofs.Common.{◌≡◌, ◌∙◌, sym, subst, arith, Bor, rules, true≢false, map, length, option_map, List, Option}
use Rattle.pv_words.specs.Words.{Text}
use Rattle.pv_words.specs.Answers.{command_of, texts}
use Rattle.pv_words.specs.Matches.{AreFileNames, AreValues}
use Rattle.pv_words.proofs.Answering.{Held, all_given, given_passes, none_given}
use Rattle.pv_words.proofs.words.read_words.Goals as goal
use Rattle.pv_words.proofs.words.read_words.Goals.{else-len-shape-via-then-len-shape+then-are_values+else-are_file_names, else-len-shape-via-then-len-shape+else-are_values, else-len-shape-via-else-len-shape}

pub returns-in-Err : goal.returns-in-Err
returns-in-Err c =
    none_given (command_of c.args.shape.now) (texts c.args.words.now) c.requires.names _ c.in_ok-command.ensures c.in-Err.error c.in-Err.ensures.kinds
    (λ memory. c.in_default.not-OutOfMemory (c.kind.ensures ∙ memory))

pub returns-then-are_file_names : goal.returns-then-are_file_names
returns-then-are_file_names c =
    let f = c.in_ok-flags-in-Ok.flags.items in
    let o = map (option_map (λ s. s.now)) c.in_ok-options-in-Ok.options.items in
    let a = c.in_ok-arguments-in-Ok.arguments.items in
    let values : AreValues o = search rules in
    let files : AreFileNames (texts a) = search rules in
    let count : length (texts a) ≡ c.args.shape.now.arguments = omega (arith, length-map a (λ (s : Bor Text). s.now)) in
    let held : Held (command_of c.args.shape.now) (texts c.args.words.now) c.requires.names _ c.in_ok-command.ensures f o (texts a) = record {
      found = c.in-Ok.matches;
      has = c.in-Ok.ensures.matches;
      flags_are = c.in_ok-flags-in-Ok.ensures;
      options_are = c.in_ok-options-in-Ok.ensures;
      arguments_are = c.in_ok-arguments-in-Ok.ensures;
    } in
    let give = all_given (command_of c.args.shape.now) (texts c.args.words.now) c.requires.names _ c.in_ok-command.ensures f o (texts a) held c.law_texts.ensures c.in-Ok.ensures.kinds values files count in
    rw (c.from.ensures, c.from-then-are_file_names.ensures, c.from-then-are_file_names-2.ensures) give

pub returns : goal.returns
returns c = λ bs os xs g.
    let f = c.in_ok-flags-in-Ok.flags.items in
    let o = map (option_map (λ s. s.now)) c.in_ok-options-in-Ok.options.items in
    let a = c.in_ok-arguments-in-Ok.arguments.items in
    let held : Held (command_of c.args.shape.now) (texts c.args.words.now) c.requires.names _ c.in_ok-command.ensures f o (texts a) = record {
      found = c.in-Ok.matches;
      has = c.in-Ok.ensures.matches;
      flags_are = c.in_ok-flags-in-Ok.ensures;
      options_are = c.in_ok-options-in-Ok.ensures;
      arguments_are = c.in_ok-arguments-in-Ok.ensures;
    } in
    let p = given_passes (command_of c.args.shape.now) (texts c.args.words.now) c.requires.names _ c.in_ok-command.ensures f o (texts a) held bs os xs g in
    elim c.else-len-shape.branch [
      | else-len-shape-via-then-len-shape+then-are_values+else-are_file_names w ↦
          let files = subst (λ (ys : List (Bor Text)). AreFileNames (texts ys)) (sym w.deref-then-are_values.ensures.value) p.files in
          absurd (true≢false (sym (w.if-are_file_names.ensures.1 files)))
      | else-len-shape-via-then-len-shape+else-are_values w ↦
          let values = subst (λ (ys : List (Option (Bor Text))). AreValues (map (option_map (λ s. s.now)) ys)) (sym w.deref.ensures.value) p.values in
          absurd (true≢false (sym (w.if-are_values.ensures.1 values)))
      | else-len-shape-via-else-len-shape w ↦
          let count = p.count in
          absurd (omega (arith, count, length-map a (λ (s : Bor Text). s.now)))
    ]
