use Rattle.std.proofs.Common.{◌≡◌, List, ℕ, map, Some, None, refl, ap, sym, ◌∙◌, subst, String, Vec, Global, string_bytes, rules}
use Rattle.std.specs.List.{find}
use Rattle.std.specs.Str.{bytes_eq}
use Rattle.std.specs.Prelude.{IsSome}
use Rattle.std.specs.Option.{option_map}
use Rattle.std.specs.declared.option.Option.{Option}
use Rattle.outer_ends.specs.Memory.{FileState, OpenerState, SourceState, file_state, file_named, opened}
use Rattle.outer_ends.proofs.OpenLemmas.{bytes_of_named, find_mapped}
use Rattle.outer_ends.proofs.openers.MemoryOpenerOpener.open.Goals as goal

-- what the look-up in the files found is what their states have of the name
named_state : (name : List ℕ) (s : OpenerState) (files : List (String Global × Vec ℕ Global × Vec ℕ Global)) (found : Option (String Global × Vec ℕ Global × Vec ℕ Global)) →
    map file_state files ≡ s.files → found ≡ find (λ f. bytes_eq (string_bytes f.0) name) files → file_named name s.files ≡ option_map file_state found
named_state name s files found view first =
    ap (file_named name) (sym view) ∙ find_mapped (λ (f : FileState). bytes_eq f.name name) file_state files ∙ ap (option_map file_state) (sym first)

-- from what the look-up found to what the told map has
told_some : (found : Option (List ℕ)) (bytes : List ℕ) → found ≡ Some bytes → IsSome found × (Some bytes ≡ found)
told_some found bytes e = (subst IsSome (sym e) refl, sym e)

pub returns-in-None-clause-found : goal.returns-in-None-clause-found
returns-in-None-clause-found c =
    let name = c.args.name.now in
    let named : file_named name c.args.self.now.files ≡ None =
    named_state name c.args.self.now c.self.inside.files.items _ (ap (λ (s : OpenerState). s.files) c.self.view_is) (c.in-None.ensures ∙ ap (find (λ f. bytes_eq (string_bytes f.0) name)) c.deref-2.ensures.value) in
    bytes_of_named name c.args.self.now.files ∙ ap (option_map (λ file. file.bytes)) named

pub returns-in-Ok-clause-found : goal.returns-in-Ok-clause-found
returns-in-Ok-clause-found c =
    let name = c.args.name.now in
    let named : file_named name c.args.self.now.files ≡ Some (file_state c.in-Some.file.now) =
    named_state name c.args.self.now c.self.inside.files.items _ (ap (λ (s : OpenerState). s.files) c.self.view_is) (c.in-Some.ensures ∙ ap (find (λ f. bytes_eq (string_bytes f.0) name)) c.deref-2.ensures.value) in
    told_some _ c.in-Ok.source.left
    (bytes_of_named name c.args.self.now.files ∙ ap (option_map (λ file. file.bytes)) named ∙ ap (λ (s : SourceState). Some s.left) (sym (c.in-Ok.ensures)))

pub returns-in-Ok-clause-source : goal.returns-in-Ok-clause-source
returns-in-Ok-clause-source c =
    let name = c.args.name.now in
    let named : file_named name c.args.self.now.files ≡ Some (file_state c.in-Some.file.now) =
    named_state name c.args.self.now c.self.inside.files.items _ (ap (λ (s : OpenerState). s.files) c.self.view_is) (c.in-Some.ensures ∙ ap (find (λ f. bytes_eq (string_bytes f.0) name)) c.deref-2.ensures.value) in
    ap (option_map opened) named ∙ ap Some (sym (c.in-Ok.ensures))

pub returns-in-None-clause-fails : goal.returns-in-None-clause-fails
returns-in-None-clause-fails c failing =
    let no : ⊥ = search rules in
    absurd no

pub returns-then-contains-clause-missing : goal.returns-then-contains-clause-missing
returns-then-contains-clause-missing c none calm =
    let no : ⊥ = search rules in
    absurd no

-- where the look-up found a file, the name is there
found_is_not_none : (found : Option FileState) (file : FileState) → found ≡ Some file → found ≡ None → ⊥
found_is_not_none found file is none = cc (sym is ∙ none)

pub returns-in-Ok-clause-missing : goal.returns-in-Ok-clause-missing
returns-in-Ok-clause-missing c none calm =
    let name = c.args.name.now in
    let named : file_named name c.args.self.now.files ≡ Some (file_state c.in-Some.file.now) =
    named_state name c.args.self.now c.self.inside.files.items _ (ap (λ (s : OpenerState). s.files) c.self.view_is) (c.in-Some.ensures ∙ ap (find (λ f. bytes_eq (string_bytes f.0) name)) c.deref-2.ensures.value) in
    found_is_not_none _ _ named none

pub returns-in-Err-clause-missing : goal.returns-in-Err-clause-missing
returns-in-Err-clause-missing c none calm =
    let name = c.args.name.now in
    let named : file_named name c.args.self.now.files ≡ Some (file_state c.in-Some.file.now) =
    named_state name c.args.self.now c.self.inside.files.items _ (ap (λ (s : OpenerState). s.files) c.self.view_is) (c.in-Some.ensures ∙ ap (find (λ f. bytes_eq (string_bytes f.0) name)) c.deref-2.ensures.value) in
    absurd (found_is_not_none _ _ named none)
