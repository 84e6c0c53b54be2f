-- A contract of a public call rests on this: what is seen of a `Table`.
use Rattle.std.specs.Prelude.{List}
use Rattle.java_resolver.specs.declared.infos.ClassInfo.{ClassInfo}
use Rattle.java_resolver.specs.declared.infos.FieldInfo.{FieldInfo}
use Rattle.java_resolver.specs.declared.infos.MethodInfo.{MethodInfo}
use Rattle.java_resolver.specs.declared.table.Table.{Table}

abbrev pub classes : Table → List ClassInfo
classes t = t.classes

abbrev pub fields : Table → List FieldInfo
fields t = t.fields

abbrev pub methods : Table → List MethodInfo
methods t = t.methods
