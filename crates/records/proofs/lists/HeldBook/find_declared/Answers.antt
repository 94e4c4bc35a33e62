use Rattle.std.proofs.Common.{◌≡◌, ◌∙◌, ap, is_some, Option, map, rules}
use Rattle.std.specs.List.{find}
use Rattle.std.specs.Option.{option_flatten, option_map}
use Rattle.std.proofs.lemmas.Iterator.{YieldsList-from_map, YieldsList-from_slice}
use Rattle.std.proofs.lemmas.Iterator.Search.{find_from_yields_List}
use Rattle.language.specs.declared.ValueType.{ValueType}
use Rattle.language.specs.Expressions.{type_of}
use Rattle.records.specs.declared.lists.Declaration.{Declaration}
use Rattle.records.specs.Book.{of_kind}
use Rattle.records.specs.Held.{declared_in}
use Rattle.records.proofs.Finds.{first_has}
use Rattle.records.proofs.lists.HeldBook.find_declared.Goals as goal

pub returns : goal.returns
returns c =
    let ds = c.args.self.now.declarations.now in
    let es = c.args.self.now.entries.now in
    let h : Declaration → Option ValueType = λ d. type_of c.args.name (of_kind c.args.kind (declared_in es d)) in
    let e : option_map (λ r. r) c.find.result ≡ find is_some (map h ds) =
    find_from_yields_List is_some _ _ c.find.result c.find.ensures.ran
    (YieldsList-from_map _ h (YieldsList-from_slice ds cc) c.map.ensures.closure (λ x r q k. search rules))
    (λ x b q k. search rules) in
    let m : c.flatten.result ≡ option_flatten (option_map (λ r. r) c.find.result) = search rules in
    m ∙ ap option_flatten e ∙ first_has (of_kind c.args.kind) (declared_in es) c.args.name ds
