mod ByNumber
mod InLine
